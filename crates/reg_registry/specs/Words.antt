-- What a name of a registry is.
use Rattle.std.specs.Prelude.{ℕ, ◌<◌, Bool, ◌&&◌, nat_le, nat_lt, List, length}
use Rattle.std.specs.List.{list_all}

-- one byte or more, each from 33 to 126
abbrev pub is_name : List ℕ → Bool
is_name text = nat_lt 0 (length text) && list_all (λ byte. nat_le 33 byte && nat_le byte 126) text
