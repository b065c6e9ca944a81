-- What puts leave on a shelf, one put on.
use Rattle.std.proofs.Common.{inl, inr, if◌then◌else◌, IsOk, ◌≡◌, ◌≢◌, ℕ, Bool, List, [], ◌∷◌, ◌++◌, Option, Some, None, IsSome, IfSome, Result, Ok, Err, refl, sym, ap, ◌∙◌, subst, All}
use Rattle.std.specs.Str.{bytes_eq}
use Rattle.std.specs.Cmp.Lexicographic.{bytes_decides}
use Rattle.std.proofs.lemmas.Bool.{cases_Bool, false≢true}
use Rattle.std.proofs.lemmas.List.Elements.{All-head, All-tail}
use Rattle.vkb_outside.specs.Shelf.{Files, ChangesAtMost, Puts}
use Rattle.vkb_outside.specs.declared.shelf.PutTrouble.{PutTrouble}
use Rattle.vkb_tool.specs.Answer.{AreHeld, ArePut, IsUnput}
use Rattle.vkb_tool.specs.Endings.{files_after}
use Rattle.vkb_tool.specs.Outcome.{Put}

-- the files after one put
abbrev after : Put → Files → Files
after put files = λ other. if bytes_eq other put.0 then Some put.1 else files other

-- the files after puts and one more
after-last : (done : List Put) (put : Put) (files : Files) (name : List ℕ) → files_after (done ++ put ∷ []) files name ≡ after put (files_after done files) name
after-last [] put files name = refl
after-last (first ∷ done) put files name = after-last done put (after first files) name

-- a file that is held stays held
held-after : (done : List Put) (files : Files) (name : List ℕ) → IsSome (files name) → IsSome (files_after done files name)
held-after [] files name held = held
held-after (first ∷ done) files name held =
    held-after done (after first files) name (elim (cases_Bool (bytes_eq name first.0)) [
      | inl same ↦ rw same refl
      | inr other ↦ rw other held
    ])

-- what holds of all of a list holds of one in its middle
among : {A : Type 0} (P : A → Type 0) (front : List A) (x : A) (back : List A) → All P (front ++ x ∷ back) → P x
among P [] x back all = All-head P x back all
among P (first ∷ front) x back all = among P front x back (All-tail P first (front ++ x ∷ back) all)

-- the files that are still to be put are held after those before them
pub still_held : (done : List Put) (put : Put) (rest : List Put) (told now : Option Files) → AreHeld told (done ++ put ∷ rest) → ArePut done told now → IfSome now (λ files. IsSome (files put.0))
still_held done put rest None None held are = tt
still_held done put rest None (Some new) held are = absurd are
still_held done put rest (Some old) None held are = absurd are
still_held done put rest (Some old) (Some new) held are =
    let was : IsSome (old put.0) = among (λ (p : Put). IsSome (old p.0)) done put rest held in
    subst (λ (found : Option (List ℕ)). IsSome found) (sym (are put.0)) (held-after done old put.0 was)

stepped : (done : List Put) (put : Put) (old mid now : Files) → ((name : List ℕ) → mid name ≡ files_after done old name) → ChangesAtMost put.0 mid now → now put.0 ≡ Some put.1
    → (name : List ℕ) → now name ≡ files_after (done ++ put ∷ []) old name
stepped done put old mid now are changes is name =
    let kept = files_after done old name in
    elim (cases_Bool (bytes_eq name put.0)) [
      | inl same ↦
          let at : name ≡ put.0 = (bytes_decides name put.0).0 same in
          let there : after put (files_after done old) name ≡ Some put.1 = ap (λ (b : Bool). if b then Some put.1 else kept) same in
          ap now at ∙ is ∙ sym there ∙ sym (after-last done put old name)
      | inr other ↦
          let apart : name ≢ put.0 = λ e. false≢true (sym other ∙ (bytes_decides name put.0).1 e) in
          let there : after put (files_after done old) name ≡ kept = ap (λ (b : Bool). if b then Some put.1 else kept) other in
          changes.others name apart ∙ are name ∙ sym there ∙ sym (after-last done put old name)
    ]

-- one put more
pub one_more : (done : List Put) (put : Put) (result : Result (Unit {0}) PutTrouble) (told mid now : Option Files) → ArePut done told mid → Puts put.0 put.1 result mid now → IsOk result → ArePut (done ++ put ∷ []) told now
one_more done put result None None None are puts ok = tt
one_more done put result None None (Some new) are puts ok = absurd puts
one_more done put result None (Some mid) now are puts ok = absurd are
one_more done put result (Some old) None now are puts ok = absurd are
one_more done put result (Some old) (Some mid) None are puts ok = absurd puts
one_more done put (Ok value) (Some old) (Some mid) (Some new) are puts ok = stepped done put old mid new are puts.0 puts.1
one_more done put (Err trouble) (Some old) (Some mid) (Some new) are puts ok = absurd (false≢true ok)

-- a put that failed behind others
pub one_failed : (done : List Put) (put : Put) (result : Result (Unit {0}) PutTrouble) (told mid now : Option Files) → ArePut done told mid → Puts put.0 put.1 result mid now → IsUnput done put told now
one_failed done put result None None None are puts = tt
one_failed done put result None None (Some new) are puts = absurd puts
one_failed done put result None (Some mid) now are puts = absurd are
one_failed done put result (Some old) None now are puts = absurd are
one_failed done put result (Some old) (Some mid) None are puts = absurd puts
one_failed done put result (Some old) (Some mid) (Some new) are puts =
    record { others = λ other apart. puts.0.others other apart ∙ are other; held = puts.0.held }

-- nothing was put yet
pub none_put : (told : Option Files) → ArePut [] told told
none_put None = tt
none_put (Some files) = λ name. refl
