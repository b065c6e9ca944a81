use Rattle.std.proofs.Common.{◌≡◌, ◌==◌, drop}
use Rattle.std.specs.List.{list_any}
use Rattle.reg_forms.proofs.options.is_option_name.Given as goal

-- no byte so far is a `:`
abbrev pub invariant-loop-byte : goal.invariant-loop-byte
invariant-loop-byte l = list_any (λ byte. byte == 58) (drop l.byte-index l.name) ≡ list_any (λ byte. byte == 58) l.name
