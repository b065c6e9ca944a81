use Rattle.std.proofs.Common.{◌<◌, ℕ, subst, sym, get_or, length, map, arith}
use Rattle.std.proofs.lemmas.List.{get_or_default, length-map}
use Rattle.vkb_formula.specs.declared.name_table.NameId.{NameId}
use Rattle.reg_closure.proofs.ListedLemmas.{under-more}
use Rattle.reg_closure.proofs.listed.put_under.Goals as goal

abbrev first_name : NameId
first_name = record { 0 = 0 }

pub loop-id-preserved : goal.loop-id-preserved
loop-id-preserved c =
    let ids = c.args.ids.now in
    let i = c.loop-id.id-index in
    let id = get_or ids i first_name in
    let first = c.args.table.now.items in
    let below : i < length ids = omega arith in
    let held : id.0 < length (map (λ list. list.items) first) = subst (λ (n : ℕ). id.0 < n) (sym (length-map first (λ list. list.items))) (c.requires.within i first_name below) in
    under-more c.args.place ids i id (map (λ list. list.items) first) (map (λ list. list.items) c.loop-id.table.items) (map (λ list. list.items) c.put_at.new.table.items) (get_or_default ids i first_name id below) below c.requires.once held c.loop-id.invariant c.in_ok-put_at.ensures
