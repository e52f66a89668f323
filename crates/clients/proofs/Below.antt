-- Positions that fit into 64 bits.
-- Assumes nothing.
use Rattle.std.proofs.Common.{ℕ, ◌<◌, ◌^◌, [], ◌∷◌}
use Rattle.machine.specs.Show.{Show}
use Rattle.machine.specs.Meaning.{Stepping, led_from, Lawful}

-- A show leads from a position that fits to one that fits.
pub led_below : (m : Stepping) → Lawful m → (p : ℕ) (s : Show) → p < 2 ^ 64 → led_from m p s < 2 ^ 64
led_below m law p [] h = h
led_below m law p (c ∷ s) h = led_below m law (m.next p c) s (law.within p c h)
