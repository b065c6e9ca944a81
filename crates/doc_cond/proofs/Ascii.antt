-- Paths and names are ASCII.
use Rattle.std.proofs.Common.{◌≡◌, ◌∷◌, [], ◌<◌, ℕ, Bool, List, length, true, not, ◌==◌, sym, refl, subst, arith, ltb, ⊎_elim, Result, Ok, Err, MatchResult, IfOk}
use Rattle.std.specs.Prelude.{codes}
use Rattle.std.specs.List.{AllByRecursion, join_with_byte, list_all}
use Rattle.std.specs.Str.{IsAscii}
use Rattle.std.proofs.lemmas.Bool.{and_parts, ltb-true}
use Rattle.std.proofs.lemmas.Bool.Decides.{nat_tests}
use Rattle.std.proofs.lemmas.List.Elements.{All-weaker}
use Rattle.std.proofs.lemmas.List.Sums.{AllPass-from_list_all}
use Rattle.std.proofs.lemmas.Str.{IsAscii-append}
use Rattle.std.proofs.lemmas.Str.Ascii.{IsAscii-cons, IsAscii-from_all}
use Rattle.vkb_bytes.specs.Bytes.{is_word_byte}
use Rattle.doc_cond.specs.declared.CondFault.{CondFault}
use Rattle.doc_cond.specs.declared.LineKind.{LineKind}
use Rattle.doc_cond.specs.declared.LineKind.TheVariants.{Chapter, Api, Validity, Refpage}
use Rattle.doc_cond.specs.Lines.{GivesAscii, IsFile, IsPart, Spells, is_path_byte, is_run}

path_byte_ascii : (b : ℕ) → is_path_byte b ≡ true → b < 128
path_byte_ascii b h = grind (arith, nat_tests)

word_byte_ascii : (b : ℕ) → is_word_byte b ≡ true → b < 128
word_byte_ascii b h = grind (arith, nat_tests)

run_ascii : (test : ℕ → Bool) (bytes : List ℕ) → ((b : ℕ) → test b ≡ true → b < 128) → is_run test bytes ≡ true → IsAscii bytes
run_ascii test bytes low h =
    IsAscii-from_all bytes (All-weaker (λ b. test b ≡ true) (λ b. b < 128) low bytes (AllPass-from_list_all test bytes (and_parts (not (length bytes == 0)) (list_all test bytes) h).1))

path_ascii : (parts : List (List ℕ)) → AllByRecursion IsPart parts → IsAscii (join_with_byte 47 parts)
path_ascii [] each = λ i. omega arith
path_ascii (part ∷ []) each = run_ascii is_path_byte part path_byte_ascii each.0.run
path_ascii (part ∷ next ∷ parts) each =
    IsAscii-append part (47 ∷ join_with_byte 47 (next ∷ parts)) (run_ascii is_path_byte part path_byte_ascii each.0.run)
    (IsAscii-cons 47 (join_with_byte 47 (next ∷ parts)) (omega arith) (path_ascii (next ∷ parts) each.1))

file_ascii : (front folder file target : List ℕ) → IsAscii folder → IsFile front folder file target → IsAscii file
file_ascii front folder file target low f =
    subst IsAscii (sym f.file_is)
    (IsAscii-append folder f.path low (subst IsAscii (sym f.path_is.3) (path_ascii f.path_is.0 f.path_is.2)))

text_ascii : (bytes : List ℕ) → list_all (λ b. ltb b 128) bytes ≡ true → IsAscii bytes
text_ascii bytes h =
    IsAscii-from_all bytes (All-weaker (λ b. ltb b 128 ≡ true) (λ b. b < 128) (λ b. ltb-true b 128) bytes (AllPass-from_list_all (λ b. ltb b 128) bytes h))

pub gives_ascii : (kind : LineKind) (line : List ℕ) → Spells kind line → GivesAscii kind
gives_ascii (Chapter file) line h = ⊎_elim (file_ascii (codes "{chapters}/") (codes "chapters/") file h.target (text_ascii (codes "chapters/") refl)) (file_ascii (codes "{appendices}/") (codes "appendices/") file h.target (text_ascii (codes "appendices/") refl)) h.is_form
gives_ascii (Api name) line h = run_ascii is_word_byte name word_byte_ascii h.is_form.name_is
gives_ascii (Validity name) line h = run_ascii is_word_byte name word_byte_ascii h.is_form.name_is
gives_ascii (Refpage name) line h = run_ascii is_word_byte name word_byte_ascii h.name_is
gives_ascii kind line h = tt

pub ok_ascii : (IsFault : CondFault → Type 0) (line : List ℕ) (read : Result LineKind CondFault) → MatchResult read (λ kind. Spells kind line) IsFault → IfOk read GivesAscii
ok_ascii IsFault line (Ok kind) h = gives_ascii kind line h
ok_ascii IsFault line (Err fault) h = tt
