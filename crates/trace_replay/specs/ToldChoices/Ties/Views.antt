-- The code's table and positions as contracts see them.
use Rattle.std.specs.Prelude.{List, map}
use Rattle.lowered_graph.specs.LoweredChoices.Traces as traces
use Rattle.trace_replay.specs.ToldChoices.Kinds as spec
use Rattle.trace_replay.specs.declared.told_choices.kinds.Kind.{Kind}
use Rattle.trace_replay.specs.declared.told_choices.kinds.Kind.TheVariants as code
use Rattle.trace_replay.specs.declared.told_choices.positions.Position.{Position}

abbrev pub plain_kind : Kind → spec.PlainKind
plain_kind code.Silent = spec.Silent
plain_kind (code.Guesses n) = spec.Guesses n
plain_kind code.Picks = spec.Picks
plain_kind (code.Enters n) = spec.Enters n
plain_kind (code.Imports f targets) = spec.Imports f targets.items

abbrev pub plain_kinds : List Kind → List spec.PlainKind
plain_kinds ks = map plain_kind ks

abbrev pub plain_position : Position → traces.TracePosition
plain_position x = record { place = x.place; values = x.values.items; helpers = x.helpers.items }

abbrev pub plain_positions : List Position → List traces.TracePosition
plain_positions xs = map plain_position xs
