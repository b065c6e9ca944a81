-- Chains of aliases, step by step.
use Rattle.std.proofs.Common.{◌≡◌, ◌∙◌, ◌⊎◌, ◌+◌, ◌-◌, ◌<◌, ◌≤◌, ℕ, zero, suc, Bool, true, false, List, [], Option, Some, None, length, get_or, slice_get, refl, sym, ap, inl, inr, ⊎_elim, arith}
use Rattle.std.proofs.lemmas.Bool.{true≢false}
use Rattle.std.proofs.lemmas.Option.{get_or_from_slice_get, slice_get_cases, slice_get_within}
use Rattle.std.specs.Option.{option_and_then, option_map_or}
use Rattle.vkb_formula.specs.declared.name_table.NameId.{NameId}
use Rattle.reg_registry.specs.declared.registry.Row.{Row}
use Rattle.reg_registry.specs.Rows.{Rows}
use Rattle.reg_registry.specs.declared.kinds.Kind.{Kind}
use Rattle.reg_registry.specs.declared.kinds.Kind.TheVariants as kind
use Rattle.hdr_writer.specs.declared.chains.End.{End}
use Rattle.hdr_writer.specs.Aliases.{end_in, end_of}
use Rattle.hdr_writer.specs.Declarations.{command, declaration_with, declared, name_at}
use Rattle.hdr_writer.specs.Ends.{IsEnd}
use Rattle.hdr_writer.specs.Headers.{is_command, is_command_kind}

-- behind so many aliases of the row at a place another stands
pub record IsBehind (rows : List Row) (place other steps : ℕ) : Type 0 where
  pub row : Row
  pub last : Row
  pub here : slice_get rows place ≡ Some row
  pub there : slice_get rows other ≡ Some last
  pub ahead : (more : ℕ) → end_in (steps + more) rows row ≡ end_in more rows last

-- one alias further
end-next : (n : ℕ) (rows : List Row) (row next : Row) (id : NameId) → row.alias ≡ Some id → slice_get rows id.0 ≡ Some next
    → end_in (suc n) rows row ≡ end_in n rows next
end-next n rows row next id alias here =
    ap (λ o. option_map_or (end_in n rows) (option_and_then (λ id. slice_get rows id.0) o) row) alias ∙ ap (λ o. option_map_or (end_in n rows) o row) here

-- what is no alias is its own end
end-none : (n : ℕ) (rows : List Row) (row : Row) → row.alias ≡ None → end_in n rows row ≡ row
end-none zero rows row alias = refl
end-none (suc n) rows row alias = ap (λ o. option_map_or (end_in n rows) (option_and_then (λ id. slice_get rows id.0) o) row) alias

-- the row itself
pub behind-none : (rows : List Row) (place : ℕ) → place < length rows → IsBehind rows place place 0
behind-none rows place within = ⊎_elim
    (λ (found : (row : Row) × (place < length rows) × (slice_get rows place ≡ Some row) × (get_or rows place row ≡ row)). record {
      row = found.0;
      last = found.0;
      here = found.2;
      there = found.2;
      ahead = λ more. ap (λ n. end_in n rows found.0) (omega arith);
    })
    (λ past. absurd (omega (arith, past.0)))
    (slice_get_cases rows place).1

-- one alias more
pub behind-more : (rows : List Row) (place other steps : ℕ) (last : Row) (id : NameId) → IsBehind rows place other steps → slice_get rows other ≡ Some last
    → last.alias ≡ Some id → id.0 < length rows → IsBehind rows place id.0 (steps + 1)
behind-more rows place other steps last id was here alias within =
    let same : was.last ≡ last = cc (was.there, here) in
    ⊎_elim
    (λ (found : (row : Row) × (id.0 < length rows) × (slice_get rows id.0 ≡ Some row) × (get_or rows id.0 row ≡ row)). record {
      row = was.row;
      last = found.0;
      here = was.here;
      there = found.2;
      ahead = λ more.
          let further : steps + 1 + more ≡ steps + suc more = omega arith in
          ap (λ n. end_in n rows was.row) further ∙ was.ahead (suc more) ∙ ap (end_in (suc more) rows) same ∙ end-next more rows last found.0 id alias found.2;
    })
    (λ past. absurd (omega (arith, past.0)))
    (slice_get_cases rows id.0).1

-- the last row is no alias
pub end-there : (rows : List Row) (place other steps : ℕ) (last : Row) (end : End) → IsBehind rows place other steps → slice_get rows other ≡ Some last → last.alias ≡ None
    → steps ≤ length rows → end.place.0 ≡ other → end.steps ≡ steps → IsEnd rows place end
end-there rows place other steps last end was here alias few placed stepped =
    let same : was.last ≡ last = cc (was.there, here) in
    record {
      row = was.row;
      last = was.last;
      here = was.here;
      there = ap (slice_get rows) placed ∙ was.there;
      ahead = λ more. ap (λ n. end_in (n + more) rows was.row) stepped ∙ was.ahead more;
      few = omega arith;
      done = inl (ap (λ (row : Row). row.alias) same ∙ alias);
    }

-- as many aliases as there are rows
pub end-cut : (rows : List Row) (place other : ℕ) (end : End) → IsBehind rows place other end.steps → end.place.0 ≡ other → end.steps ≡ length rows → IsEnd rows place end
end-cut rows place other end was placed many = record {
  row = was.row;
  last = was.last;
  here = was.here;
  there = ap (slice_get rows) placed ∙ was.there;
  ahead = was.ahead;
  few = omega arith;
  done = inr many;
}

-- one alias before what is known
pub end-before : (rows : List Row) (place : ℕ) (row : Row) (id : NameId) (known end : End) → slice_get rows place ≡ Some row → row.alias ≡ Some id → IsEnd rows id.0 known
    → known.steps < length rows → end.place.0 ≡ known.place.0 → end.steps ≡ known.steps + 1 → IsEnd rows place end
end-before rows place row id known end here alias is less placed stepped = record {
  row = row;
  last = is.last;
  here = here;
  there = ap (slice_get rows) placed ∙ is.there;
  ahead = λ more.
      let first : end.steps + more ≡ suc (known.steps + more) = omega arith in
      ap (λ n. end_in n rows row) first ∙ end-next (known.steps + more) rows row is.row id alias is.here ∙ is.ahead more;
  few = omega arith;
  done = inl (⊎_elim (λ none. none) (λ many. absurd (omega arith)) is.done);
}

last-of : (rows : List Row) (row last : Row) (steps : ℕ) → ((more : ℕ) → end_in (steps + more) rows row ≡ end_in more rows last) → steps ≤ length rows
    → (last.alias ≡ None) ⊎ (steps ≡ length rows) → end_of rows row ≡ last
last-of rows row last steps ahead few done =
    let left = length rows - steps in
    let all : length rows ≡ steps + left = omega arith in
    ap (λ n. end_in n rows row) all ∙ ahead left ∙ ⊎_elim
    (λ none. end-none left rows last none)
    (λ many. let nothing : left ≡ 0 = omega arith in ap (λ n. end_in n rows last) nothing)
    done

-- what is found is the end
pub end-is : (rows : List Row) (place : ℕ) (end : End) → IsEnd rows place end → (row : Row) → slice_get rows place ≡ Some row
    → slice_get rows end.place.0 ≡ Some (end_of rows row)
end-is rows place end is row here =
    let same : is.row ≡ row = cc (is.here, here) in
    is.there ∙ ap Some (sym (last-of rows is.row is.last end.steps is.ahead is.few is.done) ∙ ap (end_of rows) same)

-- where it is told to end a row stands
pub end-within : (rows : List Row) (place : ℕ) (end : End) → IsEnd rows place end → end.place.0 < length rows
end-within rows place end is = slice_get_within rows end.place.0 is.last is.there

declared-command : (r : Rows) (active : List Bool) (name : List ℕ) (row : Row) (k : Kind) → is_command_kind k ≡ true → declared r active name row k ≡ command name (end_of r.rows row)
declared-command r active name row kind.External h = absurd (true≢false (sym h))
declared-command r active name row kind.Include h = absurd (true≢false (sym h))
declared-command r active name row kind.Define h = absurd (true≢false (sym h))
declared-command r active name row kind.Base h = absurd (true≢false (sym h))
declared-command r active name row kind.Bitmask h = absurd (true≢false (sym h))
declared-command r active name row kind.Handle h = absurd (true≢false (sym h))
declared-command r active name row kind.EnumType h = absurd (true≢false (sym h))
declared-command r active name row kind.FuncPointer h = absurd (true≢false (sym h))
declared-command r active name row kind.Struct h = absurd (true≢false (sym h))
declared-command r active name row kind.Union h = absurd (true≢false (sym h))
declared-command r active name row kind.Constant h = absurd (true≢false (sym h))
declared-command r active name row kind.Command h = refl

command-at : (r : Rows) (active : List Bool) (id end : NameId) (last : Row) (name : List ℕ)
    → ((row : Row) → slice_get r.rows id.0 ≡ Some row → slice_get r.rows end.0 ≡ Some (end_of r.rows row)) → slice_get r.rows end.0 ≡ Some last
    → slice_get r.names id.0 ≡ Some name → (o : Option Row) → slice_get r.rows id.0 ≡ o → option_map_or (λ row. is_command_kind row.kind) o false ≡ true
    → option_map_or (λ row. declared r active (name_at r.names id) row row.kind) o [] ≡ command name last
command-at r active id end last name ends there named None e h = absurd (true≢false (sym h))
command-at r active id end last name ends there named (Some row) e h =
    let same : end_of r.rows row ≡ last = cc (ends row e, there) in
    declared-command r active (name_at r.names id) row row.kind h
    ∙ ap (λ n. command n (end_of r.rows row)) (get_or_from_slice_get r.names id.0 name [] named) ∙ ap (command name) same

-- the declaration of a command has the result and the parameters of the end of its aliases
pub command-told : (r : Rows) (active : List Bool) (id end : NameId) (last : Row) (name : List ℕ)
    → ((row : Row) → slice_get r.rows id.0 ≡ Some row → slice_get r.rows end.0 ≡ Some (end_of r.rows row)) → slice_get r.rows end.0 ≡ Some last
    → slice_get r.names id.0 ≡ Some name → is_command r id ≡ true → declaration_with r active id ≡ command name last
command-told r active id end last name ends there named h = command-at r active id end last name ends there named (slice_get r.rows id.0) refl h
