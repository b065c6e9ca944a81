-- Where the chain of aliases ends that begins with a row.
use Rattle.std.specs.Prelude.{ℕ, zero, suc, List, length, slice_get}
use Rattle.std.specs.Option.{option_and_then, option_map_or}
use Rattle.reg_registry.specs.declared.registry.Row.{Row}

-- The row behind so many aliases, or before where there are fewer.
abbrev pub end_in : ℕ → List Row → Row → Row
end_in zero rows row = row
end_in (suc n) rows row = option_map_or (end_in n rows) (option_and_then (λ id. slice_get rows id.0) row.alias) row

-- The end of a row's chain. So many steps as there are rows are enough, as no row comes twice in a chain that ends.
abbrev pub end_of : List Row → Row → Row
end_of rows row = end_in (length rows) rows row
