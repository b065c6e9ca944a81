-- The words of a request, and where words that are none stop being the words of one.
use Rattle.std.specs.Prelude.{◌≡◌, ◌≢◌, ℕ, ◌+◌, ◌-◌, ◌≤◌, ◌==◌, not, false, List, [], ◌∷◌, ◌++◌, length, take, map, codes, Option, Some, None, Vec, ⊤, All, Bool, IsTrue, ◌||◌}
use Rattle.std.specs.declared.alloc.Global.{Global}
use Rattle.std.specs.Str.{IsUtf8}
use Rattle.vkb_bytes.specs.Bytes.{is_digit, is_letter}
use Rattle.vkb_bytes.specs.Numbers.{numeral_of}
use Rattle.vkb_formula.specs.Names.{AreDifferent}
use Rattle.doc_cond.specs.Lines.{is_name_byte, is_run}
use Rattle.vkb_tool.specs.declared.words.Request.{Request}
use Rattle.vkb_tool.specs.declared.words.Request.TheVariants.{Build, Check, Header, Tag}
use Rattle.vkb_tool.specs.declared.words.WordFault.{WordFault}
use Rattle.vkb_tool.specs.declared.words.WordFault.TheVariants.{Usage, Memory}

-- a file's name: text in UTF-8 that isn't empty
pub record IsFileName (name : List ℕ) : Type 0 where
  pub some : name ≢ []
  pub text : IsUtf8 name

-- the name of an attribute that is always set: one or more letters, digits, `_` and `-`
abbrev pub IsAttribute : List ℕ → Type 0
IsAttribute name = IsTrue (is_run is_name_byte name)

-- the word by which a request sets an attribute
abbrev pub attribute_word : List ℕ → List ℕ
attribute_word name = codes "+" ++ name

-- the word of a registry's file, or a `-` for none
abbrev pub registry_word : Option (List ℕ) → List ℕ
registry_word None = codes "-"
registry_word (Some name) = name

-- a letter or a digit
abbrev pub is_api_byte : ℕ → Bool
is_api_byte byte = is_letter byte || is_digit byte

-- the name of an API: one or more letters and digits
abbrev pub IsApiName : List ℕ → Type 0
IsApiName api = IsTrue (is_run is_api_byte api)

-- an API goes with the file of a registry, which isn't named `-`; and a `-` goes with none
abbrev pub IsApiOf : Option (List ℕ) → List ℕ → Type 0
IsApiOf None api = api ≡ codes "-"
IsApiOf (Some name) api = IsFileName name × (name ≢ codes "-") × IsApiName api

-- the first number of new tags: one to five digits, from 1 to 99999
pub record WritesFirst (word : List ℕ) (first : ℕ) : Type 0 where
  pub short : length word ≤ 5
  pub written : numeral_of 10 word ≡ Some first
  pub from_one : 1 ≤ first
  pub most : first ≤ 99999

-- the names of files, one or more, of which no two are the same
pub record AreFileNames (names : List (List ℕ)) : Type 0 where
  pub some : names ≢ []
  pub named : All IsFileName names
  pub different : AreDifferent names

-- the word isn't empty and doesn't begin with `+`
abbrev pub names_option : List ℕ → Bool
names_option [] = false
names_option (byte ∷ rest) = not (byte == 43)

-- the word by which an option is chosen
abbrev pub IsOptionWord : List ℕ → Type 0
IsOptionWord word = IsTrue (names_option word)

-- the words that ask for a request
abbrev pub Spells : List (List ℕ) → Request → Type 0
Spells words (Check registry root api always) = IsApiOf registry api × IsFileName root × All IsAttribute always
    × (words ≡ codes "check" ∷ registry_word registry ∷ root ∷ api ∷ map attribute_word always)
Spells words (Build registry root api names always) = IsApiOf registry api × IsFileName root × All IsOptionWord names × All IsAttribute always
    × (words ≡ codes "build" ∷ registry_word registry ∷ root ∷ api ∷ (names ++ map attribute_word always))
Spells words (Header registry api names) = IsApiOf (Some registry) api × All IsOptionWord names × (words ≡ codes "header" ∷ registry ∷ api ∷ names)
Spells words (Tag first files) = (word : List ℕ) × WritesFirst word first × AreFileNames files × (words ≡ codes "tag" ∷ word ∷ files)

-- some request begins with these words
abbrev pub IsFront : List (List ℕ) → Type 0
IsFront words = (more : List (List ℕ)) × (request : Request) × Spells (words ++ more) request

-- The words are no request, and the one at this position, from 1, is the first that has no place: some request begins with
-- the words before it, and none with it too. Where only words are missing, the position is one past the last word.
pub record IsMisplaced (words : List (List ℕ)) (position : ℕ) : Type 0 where
  pub from_one : 1 ≤ position
  pub within : position ≤ length words + 1
  pub before : IsFront (take (position - 1) words)
  pub here : position ≤ length words → ¬ (IsFront (take position words))
  pub none : (request : Request) → ¬ (Spells words request)

-- what is told of words that weren't read
abbrev pub IsWordFault : List (List ℕ) → WordFault → Type 0
IsWordFault words (Usage position) = IsMisplaced words position
IsWordFault words Memory = ⊤

-- the bytes of each word
abbrev pub items_of : List (Vec ℕ Global) → List (List ℕ)
items_of words = map (λ word. word.items) words
