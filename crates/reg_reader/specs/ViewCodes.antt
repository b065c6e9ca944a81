-- Elements as lists of symbols, which Rattle wants of the values of a model. No public contract names it.
use Rattle.std.specs.Prelude.{◌≡◌, ◌⊎◌, ℕ, List, [], ◌∷◌, refl}
use Rattle.std.specs.Coded.{Coded, code_by, coded×, coded⊎, coded_list, coded_ℕ}
use mathlib.Core.Path.{ap}
use mathlib.Core.Logic.{inl, inr}
use Rattle.reg_reader.specs.Views.{Content, Element}

-- the place, the name and the attributes of an element
abbrev pub Head : Type 0
Head = ℕ × (List ℕ × List (List ℕ × List ℕ))

-- characters, the beginning of an element, or its end
abbrev pub Symbol : Type 0
Symbol = List ℕ ⊎ (Head ⊎ ℕ)

-- contents before other symbols
abbrev pub written : Content → List Symbol → List Symbol
written Content.none rest = rest
written (Content.chars text after) rest = inl text ∷ written after rest
written (Content.child place name attributes inner after) rest = inr (inl (place, (name, attributes))) ∷ written inner (inr (inr 0) ∷ written after rest)

-- what stands up to the end of an element, and what stands behind it and those round it
abbrev pub Read : Type 0
Read = Content × List Content

abbrev pub with_head : Head → Content → List Content → Read
with_head head inner [] = (inner, [])
with_head head inner (after ∷ outer) = (Content.child head.0 head.1.0 head.1.1 inner after, outer)

abbrev pub with_symbol : Symbol → Read → Read
with_symbol (inl text) r = (Content.chars text r.0, r.1)
with_symbol (inr (inl head)) r = with_head head r.0 r.1
with_symbol (inr (inr end)) r = (Content.none, r.0 ∷ r.1)

abbrev pub read : List Symbol → Read
read [] = (Content.none, [])
read (symbol ∷ symbols) = with_symbol symbol (read symbols)

pub read_written : (content : Content) (rest : List Symbol) (outer : List Content) → read rest ≡ (Content.none, outer) → read (written content rest) ≡ (content, outer)
read_written Content.none rest outer e = e
read_written (Content.chars text after) rest outer e = ap (with_symbol (inl text)) (read_written after rest outer e)
read_written (Content.child place name attributes inner after) rest outer e =
    ap (with_symbol (inr (inl (place, (name, attributes)))))
    (read_written inner (inr (inr 0) ∷ written after rest) (after ∷ outer) (ap (with_symbol (inr (inr 0))) (read_written after rest outer e)))

abbrev pub content_code : Coded Content
content_code =
    code_by (List Symbol) (coded_list (coded⊎ (coded_list coded_ℕ) (coded⊎ (coded× coded_ℕ (coded× (coded_list coded_ℕ) (coded_list (coded× (coded_list coded_ℕ) (coded_list coded_ℕ))))) coded_ℕ)))
    (λ content. written content []) (λ symbols. (read symbols).0) (λ content. ap (λ (r : Read). r.0) (read_written content [] [] refl))

abbrev pub element_code : Coded Element
element_code =
    code_by (Head × Content) (coded× (coded× coded_ℕ (coded× (coded_list coded_ℕ) (coded_list (coded× (coded_list coded_ℕ) (coded_list coded_ℕ))))) content_code)
    (λ e. ((e.place, (e.name, e.attributes)), e.content)) (λ p. record { place = p.0.0; name = p.0.1.0; attributes = p.0.1.1; content = p.1 }) (λ _. refl)
