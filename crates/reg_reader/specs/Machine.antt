-- How far the reader of markup has come, byte by byte. No public contract names it.
use Rattle.std.specs.Prelude.{ℕ, zero, suc, ◌+◌, ◌-◌, Bool, ◌||◌, ◌&&◌, ◌==◌, nat_le, nat_lt, List, [], ◌∷◌, ◌++◌, length, slice_index, slice_range, Option, Some, None, is_some, if◌then◌else◌}
use Rattle.std.specs.Option.{option_map}
use Rattle.vkb_bytes.specs.Bytes.{is_white}
use Rattle.reg_reader.specs.Markup.{is_name_start, is_name_byte, part_of, run_of, is_taken}
use Rattle.reg_reader.specs.References.{progress_of}
use Rattle.reg_reader.specs.declared.markup.Part.{Part}
use Rattle.reg_reader.specs.declared.markup.Node.{Node}
use Rattle.reg_reader.specs.declared.markup.Node.TheVariants as node
use Rattle.reg_reader.specs.declared.phase.Run.{Run}
use Rattle.reg_reader.specs.declared.phase.Phase.{Phase}
use Rattle.reg_reader.specs.declared.phase.Phase.TheVariants as phase
use Rattle.reg_reader.specs.declared.phase.Act.{Act}
use Rattle.reg_reader.specs.declared.phase.Act.TheVariants as act
use Rattle.reg_reader.specs.declared.reader.Open.{Open}
use Rattle.reg_reader.specs.declared.reference.Progress.{Progress}
use Rattle.reg_reader.specs.declared.reference.Progress.TheVariants as progress

-- what the next byte belongs to, the open elements from the innermost on, and the root
pub record State : Type 0 where
  pub phase : Phase
  pub opens : List Open
  pub root : Option Node

abbrev pub fresh_run : ℕ → Run
fresh_run from = record { from = from; reference = None }

abbrev pub go : Phase → Option Act
go next = Some (act.Go next)

abbrev pub after_reference : ℕ → ℕ → Progress → Option Run
after_reference from place (progress.Whole value) = Some (fresh_run from)
after_reference from place progress.Partial = Some (record { from = from; reference = Some place })
after_reference from place progress.Wrong = None

-- characters with one byte more
abbrev pub run_after : List ℕ → ℕ → ℕ → Option ℕ → Option Run
run_after b n from None =
    if slice_index b n == 60 then None
    else (if slice_index b n == 38 then Some (record { from = from; reference = Some n })
    else Some (fresh_run from))
run_after b n from (Some place) = after_reference from place (progress_of (slice_range b place (n + 1)))

abbrev pub in_outside : ℕ → Option Act
in_outside byte = if is_white byte then go phase.Outside else (if byte == 60 then go phase.Markup else None)

abbrev pub in_text : List ℕ → ℕ → ℕ → Option ℕ → Option Act
in_text b n from None =
    if slice_index b n == 60 then Some (act.Cut from) else option_map (λ run. act.Go (phase.Text run)) (run_after b n from None)
in_text b n from (Some place) = option_map (λ run. act.Go (phase.Text run)) (run_after b n from (Some place))

-- `<` was read before this place; count elements are open, and the root may be read
abbrev pub in_markup : ℕ → ℕ → ℕ → ℕ → Bool → Option Act
in_markup most n byte count rooted =
    if byte == 33 then go (phase.Comment (n - 1))
    else (if rooted then None
    else (if is_name_start byte then (if nat_lt count most then go (phase.Name n) else Some act.TooDeep)
    else (if nat_lt 0 count then (if byte == 47 then go (phase.EndName (n + 1)) else None)
    else (if byte == 63 && n == 1 then go phase.Declaration else None))))

-- what follows a comment
abbrev pub between : List Open → ℕ → Phase
between [] n = phase.Outside
between (_ ∷ _) n = phase.Text (fresh_run n)

abbrev pub in_comment : List ℕ → ℕ → ℕ → Phase → Option Act
in_comment b n from next =
    if nat_lt n (from + 4) then (if slice_index b n == 45 then go (phase.Comment from) else None)
    else (if nat_le (from + 6) n && (slice_index b n == 62 && (slice_index b (n - 1) == 45 && slice_index b (n - 2) == 45)) then go next
    else go (phase.Comment from))

-- the byte that stands at a place of `<?xml`, from the third on
abbrev pub declared_byte : ℕ → ℕ
declared_byte n = if n == 2 then 120 else (if n == 3 then 109 else 108)

abbrev pub in_declaration : List ℕ → ℕ → Option Act
in_declaration b n =
    if nat_lt n 5 then (if slice_index b n == declared_byte n then go phase.Declaration else None)
    else (if n == 5 then (if is_white (slice_index b n) then go phase.Declaration else None)
    else (if nat_le 7 n && (slice_index b n == 62 && slice_index b (n - 1) == 63) then go phase.Outside
    else go phase.Declaration))

-- what may follow a name or a value in a start tag
abbrev pub in_tag_end : ℕ → ℕ → Option Phase
in_tag_end n byte =
    if is_white byte then Some phase.Tag
    else (if byte == 47 then Some phase.Slash
    else (if byte == 62 then Some (phase.Text (fresh_run (n + 1))) else None))

abbrev pub in_name : ℕ → ℕ → ℕ → Option Act
in_name n byte from = if is_name_byte byte then go (phase.Name from) else option_map (λ next. act.Open from next) (in_tag_end n byte)

abbrev pub in_tag : ℕ → ℕ → Option Act
in_tag n byte = if is_name_start byte then go (phase.Attribute n) else option_map (λ next. act.Go next) (in_tag_end n byte)

abbrev pub in_attribute : List ℕ → ℕ → List (Part × Part) → ℕ → Option Act
in_attribute b n attributes from =
    if is_name_byte (slice_index b n) then go (phase.Attribute from)
    else (if is_taken b attributes from n then None
    else (if is_white (slice_index b n) then go (phase.Equals (part_of from n))
    else (if slice_index b n == 61 then go (phase.Quote (part_of from n)) else None)))

abbrev pub in_equals : ℕ → Part → Option Act
in_equals byte name = if is_white byte then go (phase.Equals name) else (if byte == 61 then go (phase.Quote name) else None)

abbrev pub in_quote : ℕ → ℕ → Part → Option Act
in_quote n byte name =
    if is_white byte then go (phase.Quote name)
    else (if byte == 34 || byte == 39 then go (phase.Value name byte (fresh_run (n + 1))) else None)

abbrev pub in_value : List ℕ → ℕ → Part → ℕ → ℕ → Option ℕ → Option Act
in_value b n name quote from None =
    if slice_index b n == quote then Some (act.Attribute name from) else option_map (λ run. act.Go (phase.Value name quote run)) (run_after b n from None)
in_value b n name quote from (Some place) = option_map (λ run. act.Go (phase.Value name quote run)) (run_after b n from (Some place))

abbrev pub in_slash : ℕ → Option Act
in_slash byte = if byte == 62 then Some act.Close else None

abbrev pub in_end_white : ℕ → Option Act
in_end_white byte = if is_white byte then go phase.EndWhite else (if byte == 62 then Some act.Close else None)

abbrev pub in_end_name : List ℕ → ℕ → Part → ℕ → Option Act
in_end_name b n name from =
    if nat_lt (name.from + (n - from)) name.to
    then (if slice_index b n == slice_index b (name.from + (n - from)) then go (phase.EndName from) else None)
    else in_end_white (slice_index b n)

abbrev pub top_attributes : List Open → List (Part × Part)
top_attributes [] = []
top_attributes (top ∷ _) = top.attributes

abbrev pub top_name : List Open → Part
top_name [] = part_of 0 0
top_name (top ∷ _) = top.name

-- what the byte at a place does, if markup can go on so
abbrev pub act_in : ℕ → List ℕ → ℕ → List Open → Option Node → Phase → Option Act
act_in most b n opens root phase.Outside = in_outside (slice_index b n)
act_in most b n opens root (phase.Text run) = in_text b n run.from run.reference
act_in most b n opens root phase.Markup = in_markup most n (slice_index b n) (length opens) (is_some root)
act_in most b n opens root (phase.Comment from) = in_comment b n from (between opens (n + 1))
act_in most b n opens root phase.Declaration = in_declaration b n
act_in most b n opens root (phase.Name from) = in_name n (slice_index b n) from
act_in most b n opens root phase.Tag = in_tag n (slice_index b n)
act_in most b n opens root (phase.Attribute from) = in_attribute b n (top_attributes opens) from
act_in most b n opens root (phase.Equals name) = in_equals (slice_index b n) name
act_in most b n opens root (phase.Quote name) = in_quote n (slice_index b n) name
act_in most b n opens root (phase.Value name quote run) = in_value b n name quote run.from run.reference
act_in most b n opens root phase.ValueEnd = option_map (λ next. act.Go next) (in_tag_end n (slice_index b n))
act_in most b n opens root phase.Slash = in_slash (slice_index b n)
act_in most b n opens root (phase.EndName from) = in_end_name b n (top_name opens) from
act_in most b n opens root phase.EndWhite = in_end_white (slice_index b n)

abbrev pub with_children : List Node → List Open → List Open
with_children more [] = []
with_children more (top ∷ rest) = record { at = top.at; name = top.name; attributes = top.attributes; children = top.children ++ more } ∷ rest

abbrev pub with_attribute : Part × Part → List Open → List Open
with_attribute attribute [] = []
with_attribute attribute (top ∷ rest) = record { at = top.at; name = top.name; attributes = top.attributes ++ attribute ∷ []; children = top.children } ∷ rest

abbrev pub opened : ℕ → ℕ → List Open → List Open
opened from to opens = record { at = from - 1; name = part_of from to; attributes = []; children = [] } ∷ opens

abbrev pub element_of : Open → Node
element_of top = node.Element top.at top.name top.attributes top.children

-- the element is a child of the one round it, or the root
abbrev pub put : ℕ → Node → List Open → State
put n child [] = record { phase = phase.Outside; opens = []; root = Some child }
put n child (top ∷ rest) = record { phase = phase.Text (fresh_run n); opens = with_children (child ∷ []) (top ∷ rest); root = None }

abbrev pub closed : ℕ → List Open → Option Node → State
closed n [] root = record { phase = phase.Outside; opens = []; root = root }
closed n (top ∷ rest) root = put n (element_of top) rest

-- a state, no markup, or an element that is nested too deep
pub data Move : Type 0 where
  Next : State → Move
  Bad : Move
  Deep : Move

abbrev pub done : ℕ → List Open → Option Node → Act → Move
done n opens root (act.Go next) = Next (record { phase = next; opens = opens; root = root })
done n opens root (act.Cut from) = Next (record { phase = phase.Markup; opens = with_children (run_of from n) opens; root = root })
done n opens root (act.Open from next) = Next (record { phase = next; opens = opened from n opens; root = root })
done n opens root (act.Attribute name from) = Next (record { phase = phase.ValueEnd; opens = with_attribute (name, part_of from n) opens; root = root })
done n opens root act.Close = Next (closed (n + 1) opens root)
done n opens root act.TooDeep = Deep

abbrev pub move_of : ℕ → List Open → Option Node → Option Act → Move
move_of n opens root None = Bad
move_of n opens root (Some does) = done n opens root does

-- the state after the byte at a place
abbrev pub step : ℕ → List ℕ → ℕ → State → Move
step most b n s = move_of n s.opens s.root (act_in most b n s.opens s.root s.phase)

abbrev pub start : State
start = record { phase = phase.Outside; opens = []; root = None }

abbrev pub then_step : ℕ → List ℕ → ℕ → Move → Move
then_step most b n (Next s) = step most b n s
then_step most b n Bad = Bad
then_step most b n Deep = Deep

-- the state after the bytes before a place
abbrev pub run : ℕ → List ℕ → ℕ → Move
run most b zero = Next start
run most b (suc n) = then_step most b n (run most b n)
