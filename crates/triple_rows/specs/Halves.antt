-- The system of a triple in two halves: what its sources say, and what its letter, its denied target and the bounds say.
use Rattle.std.specs.Prelude.{ℕ, ◌+◌, true, length, slice_get}
use Rattle.letter_acts.specs.Acts.{Alphabet, frame_of}
use Rattle.triple_rows.specs.declared.triples.Triple.{Triple}
use Rattle.triple_rows.specs.declared.triples.Triple.TheVariants.{Inside, Call, Back}
use Rattle.triple_rows.specs.Predicates.{truth, formula_of}
use Rattle.triple_rows.specs.Systems.{PlainSystem, both_systems, said}
use Rattle.triple_rows.specs.Triples.{inside_system_of, call_system_of, back_system_of}

-- what the sources say: the predicate before, or those at the exit and before the call
abbrev pub said_before : Alphabet → Triple → PlainSystem
said_before al (Inside from letter to) = said (λ c. c) (formula_of from.pred)
said_before al (Call from letter to) = said (λ c. c) (formula_of from.pred)
said_before al (Back exit before letter to) =
    both_systems (said (λ c. c) (formula_of exit.pred)) (said (λ c. length (frame_of al exit.proc) + c) (formula_of before.pred))

-- the system of the triple with true sources
abbrev pub said_after : Alphabet → Triple → PlainSystem
said_after al (Inside from letter to) = inside_system_of al (slice_get al.acts letter) (truth true) (formula_of to.pred)
said_after al (Call from letter to) = call_system_of al (slice_get al.acts letter) (truth true) (formula_of to.pred)
said_after al (Back exit before letter to) = back_system_of al (slice_get al.acts letter) (truth true) (truth true) (formula_of to.pred)
