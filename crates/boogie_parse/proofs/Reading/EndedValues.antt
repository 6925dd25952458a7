-- A value that a mark ends, as contracts see that value.
use Rattle.std.proofs.Common.{◌≡◌, List, Result, Ok, Err, refl, ap, subst}
use Rattle.std.specs.Borrow.{Bor}
use Rattle.boogie_tree.specs.declared.span.Span.{Span}
use Rattle.boogie_parse.specs.declared.fault.Fault.{Fault}
use Rattle.boogie_parse.specs.declared.symbols.Fixed.{Fixed}
use Rattle.boogie_parse.specs.declared.symbols.Symbol.{Symbol}
use Rattle.boogie_parse.specs.Reading.Outcomes.{ReadResult}
use Rattle.boogie_parse.specs.Reading.ListReading.{◌>>=◌, read, behind}
use Rattle.boogie_parse.specs.Reading.ListViews.{Gives, found, same}

-- what was read, where the value is seen so
abbrev seen_as : {C X : Type 0} → (C → X) → ReadResult C → ReadResult X
seen_as view (Ok r) = read (view r.value) r.rest
seen_as view (Err f) = Err f

seen_ended : {C X : Type 0} (view : C → X) (value : C) (o : ReadResult Span) → seen_as view (o >>= λ s. read value s.rest) ≡ (o >>= λ s. read (view value) s.rest)
seen_ended view value (Ok s) = refl
seen_ended view value (Err f) = refl

given_as : {C X : Type 0} (view : C → X) (result : Result (C × Bor (List Symbol)) Fault) (x : ReadResult C) → Gives (found same) result x → Gives (found view) result (seen_as view x)
given_as view (Ok c) x h = ap (seen_as view) h
given_as view (Err e) x h = λ m. ap (seen_as view) (h m)

pub ended_as : {C X : Type 0} (view : C → X) (result : Result (C × Bor (List Symbol)) Fault) (end : Span) (f : Fixed) (value : C) (ts : List Symbol)
    → Gives (found same) result (behind end f ts >>= λ s. read value s.rest) → Gives (found view) result (behind end f ts >>= λ s. read (view value) s.rest)
ended_as view result end f value ts h =
    subst (λ x. Gives (found view) result x) (seen_ended view value (behind end f ts)) (given_as view result (behind end f ts >>= λ s. read value s.rest) h)
