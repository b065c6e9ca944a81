-- A shelf in memory of which some calls fail.
use Rattle.std.specs.Prelude.{ℕ, ◌+◌, ◌-◌, ◌^◌, min, Bool, if◌then◌else◌, ◌==◌, List}
use Rattle.std.specs.List.{list_any}
use Rattle.vkb_outside.specs.Held.{with_file}

-- its files, the numbers of the calls that fail, how many calls there were, and how many of them failed
pub record FailingFiles : Type 0 where
  pub files : List (List ℕ × List ℕ)
  pub failing : List ℕ
  pub calls : ℕ
  pub read_faults : ℕ
  pub put_faults : ℕ

-- the number of the call after so many, which stays at the end of 64 bits
abbrev pub next_number : ℕ → ℕ
next_number calls = min (calls + 1) (2 ^ 64 - 1)

-- whether the next call fails
abbrev pub fails : FailingFiles → Bool
fails shelf = list_any (λ number. number == next_number shelf.calls) shelf.failing

-- after a read: one call more, and one fault more where it failed
abbrev pub after_read : FailingFiles → FailingFiles
after_read shelf = record shelf {
  calls = next_number shelf.calls;
  read_faults = if fails shelf then shelf.read_faults + 1 else shelf.read_faults;
}

-- after a put: one call more, and one fault more where it failed, or else the file that was put
abbrev pub after_put : FailingFiles → List ℕ → List ℕ → FailingFiles
after_put shelf name bytes = record shelf {
  calls = next_number shelf.calls;
  put_faults = if fails shelf then shelf.put_faults + 1 else shelf.put_faults;
  files = if fails shelf then shelf.files else with_file shelf.files name bytes;
}
