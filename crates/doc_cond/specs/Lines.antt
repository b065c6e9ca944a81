-- What a line of the conditional AsciiDoc of the Vulkan sources is: one spelling for each kind. The conditionals and the
-- comments are those of the AsciiDoc language documentation. The includes and the lines that set `refpage` are those of the
-- style guide "Vulkan Documentation and Extensions: Procedures and Conventions". It is this tool's own rule that `ifeval` is
-- refused, and names with `,` and `+` between them, and `endif` with a text in its brackets.
use Rattle.std.specs.Prelude.{◌≡◌, ◌≢◌, ◌⊎◌, ℕ, ◌+◌, ◌-◌, ◌<◌, Bool, true, false, ◌&&◌, ◌||◌, not, ◌==◌, if◌then◌else◌, List, ◌++◌, length, take, IsTrue, codes}
use Rattle.std.specs.List.{AllByRecursion, join_with_byte, list_all, suffix_len}
use Rattle.std.specs.Str.{IsAscii}
use Rattle.vkb_bytes.specs.Bytes.{begins, is_letter, is_word_byte}
use Rattle.doc_cond.specs.declared.CondFault.{CondFault}
use Rattle.doc_cond.specs.declared.CondFault.TheVariants.{BadCondition, Unbalanced, CondDepth, Memory}
use Rattle.doc_cond.specs.declared.LineKind.{LineKind}
use Rattle.doc_cond.specs.declared.LineKind.TheVariants.{Plain, Comment, Other, Begin, OneLine, Close, Chapter, Api, Validity, Refpage}

-- a space or a tab
abbrev pub is_blank : ℕ → Bool
is_blank b = b == 32 || b == 9

-- what doesn't count at the end of a line: a blank or a carriage return
abbrev pub is_end_blank : ℕ → Bool
is_end_blank b = is_blank b || b == 13

-- the line without these at its end
abbrev pub bare : List ℕ → List ℕ
bare line = take (length line - suffix_len is_end_blank line) line

-- one or more bytes, each of which passes
abbrev pub is_run : (ℕ → Bool) → List ℕ → Bool
is_run test bytes = not (length bytes == 0) && list_all test bytes

-- no byte is this one
abbrev pub lacks : List ℕ → ℕ → Bool
lacks bytes byte = list_all (λ b. not (b == byte)) bytes

-- a letter, a digit, `_` or `-`
abbrev pub is_name_byte : ℕ → Bool
is_name_byte b = is_word_byte b || b == 45

-- one of these or `.`
abbrev pub is_path_byte : ℕ → Bool
is_path_byte b = is_name_byte b || b == 46

-- One or more names. With one name `any` is true.
pub record AreNames (any : Bool) (names : List (List ℕ)) : Type 0 where
  pub some : 0 < length names
  pub each : IsTrue (list_all (is_run is_name_byte) names)
  pub single : length names ≡ 1 → any ≡ true

-- the names with a `,` between any two where any has to be set, and a `+` where all have
abbrev pub joined : Bool → List (List ℕ) → List ℕ
joined any names = join_with_byte (if any then 44 else 43) names

-- a part of a path, but not this folder or the one above
pub record IsPart (part : List ℕ) : Type 0 where
  pub run : IsTrue (is_run is_path_byte part)
  pub not_here : part ≢ codes "."
  pub not_above : part ≢ codes ".."

-- one or more parts with a `/` between any two
abbrev pub IsPath : List ℕ → Type 0
IsPath path = (parts : List (List ℕ)) × (0 < length parts) × AllByRecursion IsPart parts × (path ≡ join_with_byte 47 parts)

abbrev pub opening : Bool → List ℕ
opening negated = if negated then codes "ifndef::" else codes "ifdef::"

-- `ifdef::NAMES[]` or `ifndef::NAMES[]`
pub record IsBegin (negated any : Bool) (names : List (List ℕ)) (line : List ℕ) : Type 0 where
  pub names_are : AreNames any names
  pub spelled : line ≡ opening negated ++ (joined any names ++ codes "[]")

-- `ifdef::NAMES[TEXT]` or `ifndef::NAMES[TEXT]`, with the place of the text's first byte in the line and of the byte after its last
pub record IsOneLine (negated any : Bool) (names : List (List ℕ)) (from to : ℕ) (line : List ℕ) : Type 0 where
  pub names_are : AreNames any names
  pub text : List ℕ
  pub some : 0 < length text
  pub spelled : line ≡ opening negated ++ (joined any names ++ (codes "[" ++ (text ++ codes "]")))
  pub starts : from ≡ length (opening negated ++ (joined any names ++ codes "["))
  pub ends : to ≡ from + length text

-- `endif::NAMES[]` or `endif::[]`. Without names `any` is true.
pub record IsClose (any : Bool) (names : List (List ℕ)) (line : List ℕ) : Type 0 where
  pub names_are : AreNames any names ⊎ ((any ≡ true) × (length names ≡ 0))
  pub spelled : line ≡ codes "endif::" ++ (joined any names ++ codes "[]")

-- `include::TARGET[ATTRIBUTES]`, where the target ends before the first `[`, the line at the first `]` behind that, and the
-- target is of a form
pub record Includes (IsForm : List ℕ → Type 0) (line : List ℕ) : Type 0 where
  pub target : List ℕ
  pub attributes : List ℕ
  pub to_bracket : IsTrue (lacks target 91)
  pub attributes_are : IsTrue (lacks attributes 93)
  pub spelled : line ≡ codes "include::" ++ (target ++ (codes "[" ++ (attributes ++ codes "]")))
  pub is_form : IsForm target

-- a path behind the front, of the file at this path in the folder
pub record IsFile (front folder file target : List ℕ) : Type 0 where
  pub path : List ℕ
  pub path_is : IsPath path
  pub target_is : target ≡ front ++ path
  pub file_is : file ≡ folder ++ path

-- `{chapters}/PATH` or `{appendices}/PATH`
abbrev pub IsChapter : List ℕ → List ℕ → Type 0
IsChapter file target = IsFile (codes "{chapters}/") (codes "chapters/") file target ⊎ IsFile (codes "{appendices}/") (codes "appendices/") file target

-- `KIND/NAME.adoc` behind the front
pub record IsPage (front name target : List ℕ) : Type 0 where
  pub kind : List ℕ
  pub kind_is : IsTrue (is_run is_letter kind)
  pub name_is : IsTrue (is_run is_word_byte name)
  pub target_is : target ≡ front ++ (kind ++ (codes "/" ++ (name ++ codes ".adoc")))

abbrev pub IsApi : List ℕ → List ℕ → Type 0
IsApi name target = IsPage (codes "{generated}/api/") name target

abbrev pub IsValidity : List ℕ → List ℕ → Type 0
IsValidity name target = IsPage (codes "{generated}/validity/") name target

-- an include of another form
pub record IsOther (line : List ℕ) : Type 0 where
  pub includes : IsTrue (begins line (codes "include::"))
  pub no_chapter : (file : List ℕ) → ¬ Includes (IsChapter file) line
  pub no_api : (name : List ℕ) → ¬ Includes (IsApi name) line
  pub no_validity : (name : List ℕ) → ¬ Includes (IsValidity name) line

-- `:refpage:`, blanks and a name
pub record IsRefpage (name line : List ℕ) : Type 0 where
  pub gap : List ℕ
  pub gap_is : IsTrue (is_run is_blank gap)
  pub name_is : IsTrue (is_run is_word_byte name)
  pub spelled : line ≡ codes ":refpage:" ++ (gap ++ name)

-- two slashes and not a third, or four
abbrev pub begins_comment : List ℕ → Bool
begins_comment line = (begins line (codes "//") && not (begins line (codes "///"))) || begins line (codes "////")

abbrev pub begins_conditional : List ℕ → Bool
begins_conditional line = begins line (codes "ifdef::") || begins line (codes "ifndef::") || begins line (codes "endif::") || begins line (codes "ifeval::")

-- none of the forms above
pub record IsPlain (line : List ℕ) : Type 0 where
  pub no_conditional : begins_conditional line ≡ false
  pub no_include : begins line (codes "include::") ≡ false
  pub no_refpage : (name : List ℕ) → ¬ IsRefpage name line
  pub no_comment : begins_comment line ≡ false

-- the line, with nothing to strip from its end, is spelled as that kind is
abbrev pub Spells : LineKind → List ℕ → Type 0
Spells (Begin negated any names) line = IsBegin negated any names line
Spells (OneLine negated any names from to) line = IsOneLine negated any names from to line
Spells (Close any names) line = IsClose any names line
Spells (Chapter file) line = Includes (IsChapter file) line
Spells (Api name) line = Includes (IsApi name) line
Spells (Validity name) line = Includes (IsValidity name) line
Spells Other line = IsOther line
Spells (Refpage name) line = IsRefpage name line
Spells Comment line = IsTrue (begins_comment line)
Spells Plain line = IsPlain line

-- the line is of that kind
abbrev pub IsKind : List ℕ → LineKind → Type 0
IsKind line kind = Spells kind (bare line)

-- a line, with nothing to strip from its end, that begins as a conditional and is spelled as none
pub record IsBadCondition (line : List ℕ) : Type 0 where
  pub begun : IsTrue (begins_conditional line)
  pub unspelled : (kind : LineKind) → ¬ Spells kind line

-- what may be answered in place of the kind that such a line spells
abbrev pub IsSpellingFault : List ℕ → CondFault → Type 0
IsSpellingFault line BadCondition = IsBadCondition line
IsSpellingFault line (Unbalanced place) = ⊥
IsSpellingFault line (CondDepth place) = ⊥
IsSpellingFault line Memory = Unit {0}

-- what may be answered in place of a line's kind
abbrev pub IsKindFault : List ℕ → CondFault → Type 0
IsKindFault line fault = IsSpellingFault (bare line) fault

-- the places that a kind names lie in the line
abbrev pub IsWithin : List ℕ → LineKind → Type 0
IsWithin line (OneLine negated any names from to) = (from < to) × (to < length line)
IsWithin line _ = Unit {0}

-- the file and the name of a page that a kind gives are ASCII
abbrev pub GivesAscii : LineKind → Type 0
GivesAscii (Chapter file) = IsAscii file
GivesAscii (Api name) = IsAscii name
GivesAscii (Validity name) = IsAscii name
GivesAscii (Refpage name) = IsAscii name
GivesAscii _ = Unit {0}
