use Rattle.std.proofs.Common.{length, ◌-◌, ◌≡◌, ◌≤◌, ◌++◌, [], take, Some, IfSome}
use Rattle.outer_io.proofs.writing.write_all.Given as goal

-- a front of the text was taken, and no call failed yet
abbrev pub invariant-loop-written : goal.invariant-loop-written
invariant-loop-written g l = record {
  within : l.written ≤ length l.text;
  front : IfSome (g.K.Sink.taken l.initial.sink) (λ before. g.K.Sink.taken l.sink ≡ Some (before ++ take l.written l.text));
  no_fault : g.K.Sink.faults l.sink ≡ g.K.Sink.faults l.initial.sink;
  no_call : l.text ≡ [] → l.sink ≡ l.initial.sink;
}

abbrev pub decreases-loop-written : goal.decreases-loop-written
decreases-loop-written g l = length l.text - l.written
