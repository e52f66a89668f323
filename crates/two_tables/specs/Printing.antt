-- How tables and shows are printed.
-- Assumes nothing.
use Rattle.std.specs.Prelude.{ℕ, zero, suc, List, [], ◌++◌, length, codes, decimal, if◌then◌else◌}
use Rattle.std.specs.List.{flat_map}
use Rattle.machine.specs.Show.{Show}
use Rattle.machine.specs.Meaning.{Stepping, Meaning}
use Rattle.machine.specs.Table.{table_meaning}
use Rattle.examples.specs.Example.{cue_name}
use Rattle.two_tables.specs.declared.printing.StateLine.{StateLine}
use Rattle.two_tables.specs.declared.printing.ShowLine.{ShowLine}

-- Where a cue leads from a state: the name of the cue and the next state.
abbrev pub cue_text : Stepping → ℕ → ℕ → List ℕ
cue_text m s c = codes " " ++ cue_name c ++ codes " " ++ decimal (m.next s c)

-- Where the first k cues lead.
abbrev pub cues_text : Stepping → ℕ → ℕ → List ℕ
cues_text m s zero = []
cues_text m s (suc k) = cues_text m s k ++ cue_text m s k

-- A state's number, and whether a show may close there.
abbrev pub head_text : Meaning → ℕ → List ℕ
head_text m s = decimal s ++ (if m.closes s then codes ", may close" else []) ++ codes ":"

-- A state: that, and where every cue leads.
abbrev pub state_text : Meaning → ℕ → List ℕ
state_text m s = head_text m s ++ cues_text m.steps s m.steps.cues

-- A cue of a show, by its name.
abbrev pub name_text : ℕ → List ℕ
name_text c = codes " " ++ cue_name c

-- A show: its length, and the names of its cues.
abbrev pub show_text : Show → List ℕ
show_text s = decimal (length s) ++ flat_map name_text s

-- The text of a line that shows a state, and of one that shows a show.
abbrev pub state_line : StateLine → List ℕ
state_line line = state_text (table_meaning line.table.now) line.state

abbrev pub show_line : ShowLine → List ℕ
show_line line = show_text line.show.now
