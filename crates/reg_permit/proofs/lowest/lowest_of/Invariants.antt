use Rattle.reg_permit.specs.Lowest.{IsLeast, IsLeftOut, IsNumber}
use Rattle.reg_permit.proofs.lowest.lowest_of.Given as goal

-- the least numbers of the options so far
abbrev pub invariant-loop-place : goal.invariant-loop-place
invariant-loop-place l = record {
  all : IsLeast (IsNumber l.r.option_rows l.place) l.lowest.all;
  left_out : IsLeast (IsLeftOut l.r.option_rows l.chosen l.place) l.lowest.left_out;
}
