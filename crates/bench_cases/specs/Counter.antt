-- What a counter means.
-- Assumes nothing.
use Rattle.std.specs.Prelude.{◌+◌, ◌-◌, ◌^◌, if◌then◌else◌, ◌&&◌, ◌==◌, nat_lt}
use Rattle.machine.specs.Meaning.{Meaning}
use Rattle.bench_cases.specs.declared.counters.Counter.{Counter}

-- One cue, which counts up to the largest position; a show may close at one count.
abbrev pub counter_meaning : Counter → Meaning
counter_meaning k = record {
  steps = record { cues = 1; start = 0; next = λ p c. if nat_lt c 1 && nat_lt p (2 ^ 64 - 1) then p + 1 else p };
  closes = λ p. (p == k.closing);
}
