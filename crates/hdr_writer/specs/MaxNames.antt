-- The name of the last line of an enum type: `VK_PRESENT_MODE_MAX_ENUM_KHR` for `VkPresentModeKHR`. Its form is that of `vulkan_core.h`.
use Rattle.std.specs.Prelude.{ℕ, ◌-◌, Bool, ◌&&◌, ◌||◌, nat_eq, nat_lt, List, [], ◌∷◌, ◌++◌, length, take, filter, codes, if◌then◌else◌}
use Rattle.std.specs.Char.{is_ascii_lowercase, is_ascii_uppercase, to_ascii_uppercase}
use Rattle.std.specs.List.{ends_with, fold}
use Rattle.vkb_bytes.specs.Bytes.{is_digit}

-- the name ends with the tag, and is longer
abbrev pub ends_in_tag : List ℕ → List ℕ → Bool
ends_in_tag name tag = nat_lt (length tag) (length name) && ends_with nat_eq name tag

abbrev pub longer_of : List ℕ → List ℕ → List ℕ
longer_of one other = if nat_lt (length one) (length other) then other else one

-- the longest tag in which a name ends, or nothing
abbrev pub tag_of : List (List ℕ) → List ℕ → List ℕ
tag_of tags name = fold longer_of [] (filter (ends_in_tag name) tags)

-- a word begins with this byte, behind the one before it
abbrev pub begins_word : ℕ → ℕ → Bool
begins_word before byte = (is_ascii_uppercase byte && (is_ascii_lowercase before || is_digit before)) || (is_digit byte && is_ascii_lowercase before)

-- in upper case, with `_` before each byte that begins a word
abbrev pub words_behind : ℕ → List ℕ → List ℕ
words_behind before [] = []
words_behind before (byte ∷ rest) =
    (if begins_word before byte then 95 ∷ [] else []) ++ (to_ascii_uppercase byte ∷ words_behind byte rest)

-- The first byte stands behind none, for which 0 serves, as that is no letter and no digit.
abbrev pub words : List ℕ → List ℕ
words name = words_behind 0 name

-- the tag at the end of a name
abbrev pub tag_end : List ℕ → List ℕ
tag_end [] = []
tag_end (byte ∷ rest) = 95 ∷ byte ∷ rest

abbrev pub max_name_with : List ℕ → List ℕ → List ℕ
max_name_with tag name = words (take (length name - length tag) name) ++ codes "_MAX_ENUM" ++ tag_end tag

-- the words of the name without its tag, `MAX_ENUM`, and the tag
abbrev pub max_name : List (List ℕ) → List ℕ → List ℕ
max_name tags name = max_name_with (tag_of tags name) name
