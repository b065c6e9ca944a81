-- The registry of a sample: a feature, and for each item a struct and an extension that requires it.
use Rattle.std.specs.Prelude.{ℕ, List, [], ◌∷◌, ◌++◌, codes, decimal}
use Rattle.std.specs.List.{flat_map}
use Rattle.vkb_gen.specs.Items.{items_of}
use Rattle.vkb_gen.specs.Lines.{line, lines, option_name, struct_name}
use Rattle.vkb_gen.specs.declared.items.Item.{Item}
use Rattle.vkb_gen.specs.declared.items.Parents.{Parents}
use Rattle.vkb_gen.specs.declared.items.Parents.TheVariants.{Nobody, One, Two}

-- the member of a struct that points to the struct of this number
abbrev pub pointer_to : ℕ → List ℕ
pointer_to parent = codes "<member>const <type>" ++ (struct_name parent ++ codes "</type>* <name>b</name></member>")

-- the member of a struct that points to its first parent, where it has one
abbrev pub pointer_of : Parents → List ℕ
pointer_of Nobody = []
pointer_of (One parent) = pointer_to parent
pointer_of (Two parent other) = pointer_to parent

-- what an extension asks for: the feature where it has no parents, else all of them
abbrev pub depends_of : Parents → List ℕ
depends_of Nobody = codes "VK_VERSION_1_0"
depends_of (One parent) = option_name parent
depends_of (Two parent other) = option_name parent ++ (codes "," ++ option_name other)

unfoldable pub struct_line : Item → List ℕ
struct_line item = line
    (codes "<type category=\"struct\" name=\"" ∷ struct_name item.number ∷ codes "\"><member><type>int</type> <name>a</name></member>"
    ∷ pointer_of item.parents ∷ codes "</type>" ∷ [])

unfoldable pub extension_line : Item → List ℕ
extension_line item = line
    (codes "<extension name=\"" ∷ option_name item.number ∷ codes "\" number=\"" ∷ decimal item.number
    ∷ codes "\" supported=\"vulkan\" depends=\"" ∷ depends_of item.parents
    ∷ codes "\"><require><type name=\"" ∷ struct_name item.number ∷ codes "\"/></require></extension>" ∷ [])

unfoldable pub first_lines : List ℕ
first_lines = lines (codes "<registry>" ∷ codes "<types>" ∷ codes "<type name=\"int\"/>" ∷ [])

unfoldable pub middle_lines : List ℕ
middle_lines = lines
    (codes "</types>" ∷ codes "<feature api=\"vulkan\" name=\"VK_VERSION_1_0\" number=\"1.0\"></feature>" ∷ codes "<extensions>" ∷ [])

unfoldable pub last_lines : List ℕ
last_lines = lines (codes "</extensions>" ∷ codes "</registry>" ∷ [])

abbrev pub registry_with : List Item → List ℕ
registry_with items =
    first_lines ++ flat_map struct_line items ++ middle_lines ++ flat_map extension_line items ++ last_lines

-- the registry of a seed and a size
abbrev pub registry_of : ℕ → ℕ → List ℕ
registry_of seed size = registry_with (items_of seed size)
