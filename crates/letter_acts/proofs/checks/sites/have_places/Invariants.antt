use Rattle.std.proofs.Common.{◌≡◌, ℕ, ◌<◌, get_or}
use Rattle.letter_acts.proofs.checks.sites.have_places.Given as goal

abbrev pub invariant-loop-i : goal.invariant-loop-i
invariant-loop-i l = (k : ℕ) → k < l.i → (get_or l.sites k (record { id = record { number = 0; line = 0 }; place = 0 })).place ≡ get_or l.places k 0
