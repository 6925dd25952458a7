-- Graphs with equal parts.
use Rattle.std.proofs.Common.{◌≡◌}
use Rattle.letter_acts.specs.Invariant.{Graph}

pub same_graph : (g h : Graph) → g.automaton ≡ h.automaton → g.acts ≡ h.acts → g.marks ≡ h.marks → g.frames ≡ h.frames → g.names ≡ h.names →
    g.place_procs ≡ h.place_procs → g.entries ≡ h.entries → g.exits ≡ h.exits → g.sites ≡ h.sites → g ≡ h
same_graph g h automaton acts marks frames names place_procs entries exits sites = λ i. record {
  automaton = automaton i;
  acts = acts i;
  marks = marks i;
  frames = frames i;
  names = names i;
  place_procs = place_procs i;
  entries = entries i;
  exits = exits i;
  sites = sites i;
}
