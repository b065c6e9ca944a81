-- What the nodes of a tree are as plain data.
use Rattle.std.proofs.Common.{◌≡◌, ℕ, ◌+◌, ◌<◌, ◌^◌, List, [], ◌∷◌, ◌++◌, length, take, drop, get_or, refl, sym, ap, subst, ◌∙◌}
use Rattle.std.specs.Prelude.{Bool, false, All, if◌then◌else◌, codes}
use Rattle.std.specs.List.{list_any}
use Rattle.std.specs.Str.{bytes_eq}
use Rattle.std.proofs.lemmas.Bool.{or_parts, cond-false}
use Rattle.std.proofs.lemmas.List.{append_assoc, append-nil, take_more, at_drop_more}
use Rattle.reg_reader.specs.Markup.{Spells, IsElement, HasCharacters, IsNodeThere, children_of, HasParts}
use Rattle.reg_reader.specs.Views.{Content, Element, elements_in, text_in, text_before}
use Rattle.reg_reader.specs.Shown.{bytes_of, characters_of, attributes_of, joined, shown_node, content_of, AreShown, IsShown}
use Rattle.reg_reader.specs.declared.markup.Part.{Part}
use Rattle.reg_reader.specs.declared.markup.Node.{Node}
use Rattle.reg_reader.specs.declared.markup.Node.TheOpen.{Node-F}
use Rattle.reg_reader.specs.declared.markup.Node.TheViews.{out-Node}
use Rattle.reg_reader.specs.declared.markup.Node.TheFolds.{map-Node, fold-Node, fold-roll-Node, fold_out-Node}
use Rattle.reg_reader.specs.declared.markup.Node.TheVariants as node
use Rattle.reg_reader.proofs.Parts.{element-out, chars-out}

module _ (b : List ℕ) where
  pub content-element : (at : ℕ) (name : Part) (attributes : List (Part × Part)) (children nodes : List Node) → content_of b (node.Element at name attributes children ∷ nodes) ≡ Content.child at (bytes_of b name) (attributes_of b attributes) (content_of b children) (content_of b nodes)
  content-element at name attributes children nodes =
      ap (λ (f : Content → Content). f (content_of b nodes))
      (ap (fold-Node (Content → Content) (shown_node b)) (sym (node.rolls-Element at name attributes children)) ∙ fold-roll-Node (Content → Content) (shown_node b) (Node-F.Element at name attributes children))

  pub content-chars : (part : Part) (nodes : List Node) → content_of b (node.Chars part ∷ nodes) ≡ Content.chars (characters_of b part) (content_of b nodes)
  content-chars part nodes =
      ap (λ (f : Content → Content). f (content_of b nodes))
      (ap (fold-Node (Content → Content) (shown_node b)) (sym (node.rolls-Chars part)) ∙ fold-roll-Node (Content → Content) (shown_node b) (Node-F.Chars part))

  layer-elements : (layer : Node-F (Content → Content)) (after : Content) → elements_in (shown_node b layer after) ≡ elements_in (shown_node b layer Content.none) ++ elements_in after
  layer-elements (Node-F.Element at name attributes children) after = refl
  layer-elements (Node-F.Chars part) after = refl

  layer-text : (layer : Node-F (Content → Content)) (after : Content) → text_in (shown_node b layer after) ≡ text_in (shown_node b layer Content.none) ++ text_in after
  layer-text (Node-F.Element at name attributes children) after =
      ap (λ xs. xs ++ text_in after) (sym (append-nil (if bytes_eq (bytes_of b name) (codes "comment") then [] else text_in (joined children))))
  layer-text (Node-F.Chars part) after = ap (λ xs. xs ++ text_in after) (sym (append-nil (characters_of b part)))

  -- what is listed of contents part by part
  module _ {X : Type 0} (listed : Content → List X) (by-layer : (layer : Node-F (Content → Content)) (after : Content) → listed (shown_node b layer after) ≡ listed (shown_node b layer Content.none) ++ listed after) where
    by-first : (f : Content → Content) (layer : Node-F (Content → Content)) (after : Content) → f ≡ shown_node b layer → listed (f after) ≡ listed (f Content.none) ++ listed after
    by-first f layer after e = ap (λ (g : Content → Content). listed (g after)) e ∙ by-layer layer after ∙ ap (λ (g : Content → Content). listed (g Content.none) ++ listed after) (sym e)

    pub listed-first : (tree : Node) (nodes : List Node) → listed (content_of b (tree ∷ nodes)) ≡ listed (content_of b (tree ∷ [])) ++ listed (content_of b nodes)
    listed-first tree nodes =
        by-first (fold-Node (Content → Content) (shown_node b) tree) (map-Node _ (Content → Content) (fold-Node (Content → Content) (shown_node b)) (out-Node tree)) (content_of b nodes)
        (fold_out-Node (Content → Content) (shown_node b) tree)

    pub listed-append : listed Content.none ≡ [] → (nodes more : List Node) → listed (content_of b (nodes ++ more)) ≡ listed (content_of b nodes) ++ listed (content_of b more)
    listed-append none [] more = ap (λ xs. xs ++ listed (content_of b more)) (sym none)
    listed-append none (tree ∷ nodes) more =
        listed-first tree (nodes ++ more) ∙ ap (λ xs. listed (content_of b (tree ∷ [])) ++ xs) (listed-append none nodes more)
        ∙ sym (append_assoc (listed (content_of b (tree ∷ []))) (listed (content_of b nodes)) (listed (content_of b more)))
        ∙ ap (λ xs. xs ++ listed (content_of b more)) (sym (listed-first tree nodes))

  pub first-elements : (tree : Node) (nodes : List Node) → elements_in (content_of b (tree ∷ nodes)) ≡ elements_in (content_of b (tree ∷ [])) ++ elements_in (content_of b nodes)
  first-elements tree nodes = listed-first elements_in layer-elements tree nodes

  push-text : (nodes : List Node) (tree : Node) → text_in (content_of b (nodes ++ tree ∷ [])) ≡ text_in (content_of b nodes) ++ text_in (content_of b (tree ∷ []))
  push-text nodes tree = listed-append text_in layer-text refl nodes (tree ∷ [])

  -- the text of the nodes so far, and of the next
  pub next-text : (nodes : List Node) (k : ℕ) (tree : Node) → tree ≡ get_or nodes k tree → k < length nodes → (old text more : List ℕ) → text ≡ old ++ text_in (content_of b (take k nodes)) → more ≡ text ++ text_in (content_of b (tree ∷ [])) → more ≡ old ++ text_in (content_of b (take (k + 1) nodes))
  next-text nodes k tree is lt old text more so_far next =
      let taken : take (k + 1) nodes ≡ take k nodes ++ tree ∷ [] = take_more nodes k tree lt ∙ ap (λ t. take k nodes ++ t ∷ []) (sym is) in
      next ∙ ap (λ xs. xs ++ text_in (content_of b (tree ∷ []))) so_far ∙ append_assoc old (text_in (content_of b (take k nodes))) (text_in (content_of b (tree ∷ [])))
      ∙ ap (λ xs. old ++ xs) (sym (push-text (take k nodes) tree) ∙ ap (λ ns. text_in (content_of b ns)) (sym taken))

  -- whether one of the elements right between two tags has a name
  abbrev HasNamed : List ℕ → Content → Bool
  HasNamed name content = list_any (λ (element : Element). bytes_eq element.name name) (elements_in content)

  module _ (name : List ℕ) where
    layer-other : (after : Content) (layer : Node-F (Content → Content)) → HasNamed name (shown_node b layer Content.none) ≡ false → text_before name (shown_node b layer after) ≡ text_in (shown_node b layer Content.none) ++ text_before name after
    layer-other after (Node-F.Element at own attributes children) e =
        cond-false (bytes_eq (bytes_of b own) name) _ _ (or_parts _ _ e).0
        ∙ ap (λ xs. xs ++ text_before name after) (sym (append-nil (if bytes_eq (bytes_of b own) (codes "comment") then [] else text_in (joined children))))
    layer-other after (Node-F.Chars part) e = ap (λ xs. xs ++ text_before name after) (sym (append-nil (characters_of b part)))

    before-other : (nodes : List Node) (tree : Node) → HasNamed name (content_of b (tree ∷ [])) ≡ false → text_before name (content_of b (tree ∷ nodes)) ≡ text_in (content_of b (tree ∷ [])) ++ text_before name (content_of b nodes)
    before-other nodes tree =
        subst (λ (f : Content → Content). HasNamed name (f Content.none) ≡ false → text_before name (f (content_of b nodes)) ≡ text_in (f Content.none) ++ text_before name (content_of b nodes))
        (sym (fold_out-Node (Content → Content) (shown_node b) tree)) (layer-other (content_of b nodes) (map-Node _ (Content → Content) (fold-Node (Content → Content) (shown_node b)) (out-Node tree)))

    -- the text of the nodes so far, and that before the name from there on, are all that stands before it
    abbrev pub IsBeforeAt : List Node → ℕ → Type 0
    IsBeforeAt nodes k = text_in (content_of b (take k nodes)) ++ text_before name (content_of b (drop k nodes)) ≡ text_before name (content_of b nodes)

    module _ (nodes : List Node) (k : ℕ) (tree : Node) (is : tree ≡ get_or nodes k tree) (lt : k < length nodes) (so_far : IsBeforeAt nodes k) where
      at-node : text_before name (content_of b (drop k nodes)) ≡ text_before name (content_of b (tree ∷ drop (k + 1) nodes))
      at-node =
          at_drop_more (λ ns. text_before name (content_of b ns)) nodes k tree lt
          ∙ ap (λ t. text_before name (content_of b (t ∷ drop (k + 1) nodes))) (sym is)

      pub next-before : HasNamed name (content_of b (tree ∷ [])) ≡ false → IsBeforeAt nodes (k + 1)
      next-before other =
          let taken : take (k + 1) nodes ≡ take k nodes ++ tree ∷ [] = take_more nodes k tree lt ∙ ap (λ t. take k nodes ++ t ∷ []) (sym is) in
          ap (λ xs. xs ++ text_before name (content_of b (drop (k + 1) nodes))) (ap (λ ns. text_in (content_of b ns)) taken ∙ push-text (take k nodes) tree)
          ∙ append_assoc (text_in (content_of b (take k nodes))) (text_in (content_of b (tree ∷ []))) (text_before name (content_of b (drop (k + 1) nodes)))
          ∙ ap (λ xs. text_in (content_of b (take k nodes)) ++ xs) (sym (before-other (drop (k + 1) nodes) tree other) ∙ sym at-node) ∙ so_far

  there : (tree : Node) → HasParts b tree → IsNodeThere b (out-Node tree) × All (HasParts b) (children_of (out-Node tree))
  there tree (HasParts.parts here inner) = (here, inner)

  pub element-shown : (at : ℕ) (name : Part) (attributes : List (Part × Part)) (children : List Node) → HasParts b (node.Element at name attributes children) → length b < 2 ^ 32 → IsShown b name attributes children
  element-shown at name attributes children has small =
      let e = element-out at name attributes children in
      let all = there (node.Element at name attributes children) has in
      let here : IsNodeThere b (Node-F.Element at name attributes children) = subst (IsNodeThere b) e all.0 in
      let inner : All (HasParts b) children = subst (λ layer. All (HasParts b) (children_of layer)) e all.1 in
      let shown_inner : AreShown b children = record { parts = inner; small = small } in
      record { named = here.1; valued = here.2; inner = shown_inner }

  pub chars-there : (part : Part) → HasParts b (node.Chars part) → HasCharacters b part
  chars-there part has = (subst (IsNodeThere b) (chars-out part) (there (node.Chars part) has).0).characters

  element-not-none : {most outer i j : ℕ} {tree : Node} → IsElement b most outer i j tree → elements_in (content_of b (tree ∷ [])) ≡ [] → ⊥
  element-not-none (IsElement.empty {i = i} {name = name} {attributes = attributes} deep tag slash greater) e =
      let h = ap elements_in (sym (content-element i name attributes [] [])) ∙ e in cc
  element-not-none (IsElement.filled {i = i} {k = k} {m = m} {name = name} {attributes = attributes} {children = children} deep tag greater pieces chars end) e =
      let h = ap elements_in (sym (content-element i name attributes _ [])) ∙ e in cc

  pub root-not-none : (most : ℕ) (root : Node) → Spells most root b → elements_in (content_of b (root ∷ [])) ≡ [] → ⊥
  root-not-none most root spells = element-not-none spells.element

pub ruleset view_facts = (content-element, content-chars, element-shown, chars-there)
