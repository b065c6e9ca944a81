-- The numbers that a sample is drawn by: those of the linear congruential generator that Knuth gives for his computer MMIX, of
-- whose 64 bits the highest 31 count.
use Rattle.std.specs.Prelude.{ℕ, ◌+◌, ◌*◌, ◌^◌, ◌/◌, ◌%◌, zero, suc}

-- the state behind a state
unfoldable pub next_state : ℕ → ℕ
next_state state = (state * 6364136223846793005 + 1442695040888963407) % 2 ^ 64

-- the state behind so many draws, which begin at the seed
abbrev pub state_after : ℕ → ℕ → ℕ
state_after seed zero = seed
state_after seed (suc draws) = next_state (state_after seed draws)

-- the number below a bound that a draw gives, by the state that it leads to
unfoldable pub drawn : ℕ → ℕ → ℕ
drawn state bound = state / 2 ^ 33 % bound
