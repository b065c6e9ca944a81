use Rattle.std.proofs.Common.{◌≡◌, ◌<◌, ◌∷◌, [], ◌+◌, ◌++◌, length, map, set, get_or, sym, ap, ◌∙◌, arith}
use Rattle.std.specs.List.{position}
use Rattle.std.specs.Str.{bytes_eq}
use Rattle.std.proofs.lemmas.List.{get_or-map, length-map, length_push}
use Rattle.std.proofs.lemmas.Option.{slice_get_within}
use Rattle.reg_registry.specs.declared.registry.Row.{Row}
use Rattle.reg_rows.specs.Rows.{declared_in}
use Rattle.reg_rows.proofs.RowLemmas.{ahead-more, next-there, rows-more, rows-same}
use Rattle.reg_rows.proofs.building.declared.declared_rows.Goals as goal
use Rattle.reg_rows.proofs.building.declared.declared_rows.Goals.{then-is_at+in_ok-row+in_ok-push, else-is_at}

pub index_mut-requires : goal.index_mut-requires
index_mut-requires c =
    let f = c.args.tables.now in
    let i = c.loop-at.at in
    let d = c.declaration-item.result in
    let items : c.as_slice-declaration-items.result.now ≡ f.declarations = c.as_slice-declaration-items.ensures ∙ ap (λ f. f.declarations) c.forms.ensures in
    let within : i < length f.declarations = omega (arith, ap length items) in
    let here : d ≡ get_or f.declarations i d = c.declaration-item.is ∙ ap (λ xs. get_or xs i d) items in
    let found : c.declared_at.result ≡ position (λ other. bytes_eq d.name other.name) f.declarations =
    c.declared_at.ensures ∙ ap (λ n. position (λ other. bytes_eq n other.name) f.declarations) c.as_slice.ensures in
    let next = next-there f i d within here c.declared_at.result found c.loop-at.rows.items c.loop-at.invariant.rows_are c.if-is_at.ensures in
    omega (arith, slice_get_within (declared_in f) (length c.loop-at.rows.items) d next, c.loop-at.invariant.ahead.one_each, length-map c.loop-at.by_type.items (λ list. list.items))

pub row_of-requires-clause-values : goal.row_of-requires-clause-values
row_of-requires-clause-values c =
    let f = c.args.tables.now in
    let i = c.loop-at.at in
    let d = c.declaration-item.result in
    let items : c.as_slice-declaration-items.result.now ≡ f.declarations = c.as_slice-declaration-items.ensures ∙ ap (λ f. f.declarations) c.forms.ensures in
    let within : i < length f.declarations = omega (arith, ap length items) in
    let here : d ≡ get_or f.declarations i d = c.declaration-item.is ∙ ap (λ xs. get_or xs i d) items in
    let found : c.declared_at.result ≡ position (λ other. bytes_eq d.name other.name) f.declarations =
    c.declared_at.ensures ∙ ap (λ n. position (λ other. bytes_eq n other.name) f.declarations) c.as_slice.ensures in
    let next = next-there f i d within here c.declared_at.result found c.loop-at.rows.items c.loop-at.invariant.rows_are c.if-is_at.ensures in
    let lists = c.loop-at.by_type.items in
    let place = length c.loop-at.rows.items in
    let in_lists : place < length lists = omega (arith, slice_get_within (declared_in f) place d next, c.loop-at.invariant.ahead.one_each, length-map lists (λ list. list.items)) in
    let at : c.len-place.result ≡ place = omega (arith, c.len-place.ensures) in
    ap (λ list. list.items) (c.replace-own.ensures.value ∙ c.index_mut.ensures.value ∙ ap (λ n. get_or lists n c.index_mut.result.now) at)
    ∙ sym (get_or-map (λ list. list.items) lists place c.index_mut.result.now [] in_lists)
    ∙ c.loop-at.invariant.ahead.each place d (omega arith) next

pub loop-at-preserved : goal.loop-at-preserved
loop-at-preserved c =
    let f = c.args.tables.now in
    let i = c.loop-at.at in
    let d = c.declaration-item.result in
    let items : c.as_slice-declaration-items.result.now ≡ f.declarations = c.as_slice-declaration-items.ensures ∙ ap (λ f. f.declarations) c.forms.ensures in
    let within : i < length f.declarations = omega (arith, ap length items) in
    let here : d ≡ get_or f.declarations i d = c.declaration-item.is ∙ ap (λ xs. get_or xs i d) items in
    let found : c.declared_at.result ≡ position (λ other. bytes_eq d.name other.name) f.declarations =
    c.declared_at.ensures ∙ ap (λ n. position (λ other. bytes_eq n other.name) f.declarations) c.as_slice.ensures in
    let rows = c.loop-at.rows.items in
    let lists = c.loop-at.by_type.items in
    elim c.if-is_at.branch [
      | then-is_at+in_ok-row+in_ok-push w ↦
          let new : c.if-is_at.rows.items ≡ rows ++ w.in_ok-row.row ∷ [] = ap (λ v. v.items) w.rows-is ∙ w.in_ok-push.ensures.items in
          let longer : length c.if-is_at.rows.items ≡ length rows + 1 = ap length new ∙ length_push rows w.in_ok-row.row in
          let at : w.len-place.result ≡ length rows = omega (arith, w.len-place.ensures) in
          let taken = ap (λ v. map (λ list. list.items) v.items) w.by_type-is ∙ ap (λ n. map (λ list. list.items) (set lists n w.replace-own.new.dest)) at in
          record {
            rows_are = new ∙ ap (λ (row : Row). rows ++ row ∷ []) w.in_ok-row.ensures.row ∙ rows-more f i d within here c.declared_at.result found rows c.loop-at.invariant.rows_are w.if-is_at.ensures;
            ahead = rw (longer, taken) (ahead-more (λ list. list.items) f f.enumerants (length rows) lists w.replace-own.new.dest c.loop-at.invariant.ahead);
            one_each = ap (λ v. length v.items) w.named_in-is ∙ w.in_ok-row.ensures.marks;
            before = λ place. let marked = ap (λ v. get_or v.items place 0) w.named_in-is in omega (arith, w.in_ok-row.ensures.after place);
          }
      | else-is_at w ↦
          let kept = ap (λ v. v.items) w.rows-is in
          record {
            rows_are = kept ∙ rows-same f i d within here c.declared_at.result found rows c.loop-at.invariant.rows_are (sym w.if-is_at.false ∙ c.is_at.ensures);
            ahead = rw (kept, w.by_type-is) c.loop-at.invariant.ahead;
            one_each = ap (λ v. length v.items) w.named_in-is ∙ c.loop-at.invariant.one_each;
            before = rw (kept, w.named_in-is) c.loop-at.invariant.before;
          }
    ]
