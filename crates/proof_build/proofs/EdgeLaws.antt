-- Edges that are added by number.
use Rattle.std.proofs.Common.{◌≡◌, ◌∙◌, ℕ, ◌+◌, ◌<◌, List, [], ◌∷◌, ◌++◌, length, take, get_or, Option, None, Some, refl, sym, ap}
use Rattle.std.specs.Prelude.{Result, Ok, Err, OnOk}
use Rattle.std.specs.List.{filter_map, cons_option}
use Rattle.nwa_base.specs.declared.letters.Letter.{Letter}
use Rattle.nwa_base.specs.declared.faults.NwaFault.{NwaFault}
use Rattle.nwa_base.specs.Automata.{Automaton}
use Rattle.proof_build.specs.Ties.Unions.{numbered, numbered_back, with_edges}
use Rattle.proof_build.proofs.ListLaws.{passed_next, on_ok}

-- the list with what is made of one member more
made_next : {X Y : Type 0} (f : X → Option Y) (old : List Y) (xs : List X) (i : ℕ) (x d : X) (y : Y) → i < length xs → x ≡ get_or xs i d → f x ≡ Some y →
    (old ++ filter_map f (take i xs)) ++ y ∷ [] ≡ old ++ filter_map f (take (i + 1) xs)
made_next f old xs i x d y l e h = sym (passed_next f old xs i x d l e ∙ ap (λ (o : Option _). (old ++ filter_map f (take i xs)) ++ cons_option o []) h)

append_none : {X : Type 0} (xs : List X) → xs ++ [] ≡ xs
append_none [] = refl
append_none (x ∷ xs) = ap (λ (l : List _). x ∷ l) (append_none xs)

none_next : {X Y : Type 0} (f : X → Option Y) (old : List Y) (xs : List X) (i : ℕ) (x d : X) → i < length xs → x ≡ get_or xs i d → f x ≡ None →
    old ++ filter_map f (take i xs) ≡ old ++ filter_map f (take (i + 1) xs)
none_next f old xs i x d l e h =
    sym (passed_next f old xs i x d l e ∙ ap (λ (o : Option _). (old ++ filter_map f (take i xs)) ++ cons_option o []) h ∙ append_none (old ++ filter_map f (take i xs)))

pub inside_added : (f : (ℕ × Letter × ℕ) → Option (ℕ × Letter × ℕ)) (u old mid new : Automaton) (es : List (ℕ × Letter × ℕ)) (i : ℕ) (d y : ℕ × Letter × ℕ) (o : Option (ℕ × Letter × ℕ)) (r : Result (Unit {0}) NwaFault) →
    old ≡ record u { insides = u.insides ++ filter_map f (take i es) } → i < length es → o ≡ f (get_or es i d) → o ≡ Some y → r ≡ Ok tt →
    OnOk r (mid ≡ record old { insides = old.insides ++ y ∷ [] }) → new ≡ mid → new ≡ record u { insides = u.insides ++ filter_map f (take (i + 1) es) }
inside_added f u old mid new es i d y o r b l e h k n m =
    m ∙ on_ok r tt (mid ≡ record old { insides = old.insides ++ y ∷ [] }) k n ∙ (λ j. record (b j) { insides = (b j).insides ++ y ∷ [] }) ∙
    (λ j. record u { insides = made_next f u.insides es i (get_or es i d) d y l refl (sym e ∙ h) j })

pub inside_passed : (f : (ℕ × Letter × ℕ) → Option (ℕ × Letter × ℕ)) (u old new : Automaton) (es : List (ℕ × Letter × ℕ)) (i : ℕ) (d : ℕ × Letter × ℕ) (o : Option (ℕ × Letter × ℕ)) →
    old ≡ record u { insides = u.insides ++ filter_map f (take i es) } → i < length es → o ≡ f (get_or es i d) → o ≡ None → new ≡ old →
    new ≡ record u { insides = u.insides ++ filter_map f (take (i + 1) es) }
inside_passed f u old new es i d o b l e h m = m ∙ b ∙ (λ j. record u { insides = none_next f u.insides es i (get_or es i d) d l refl (sym e ∙ h) j })

pub call_added : (f : (ℕ × Letter × ℕ) → Option (ℕ × Letter × ℕ)) (u old mid new : Automaton) (es : List (ℕ × Letter × ℕ)) (i : ℕ) (d y : ℕ × Letter × ℕ) (o : Option (ℕ × Letter × ℕ)) (r : Result (Unit {0}) NwaFault) →
    old ≡ record u { calls = u.calls ++ filter_map f (take i es) } → i < length es → o ≡ f (get_or es i d) → o ≡ Some y → r ≡ Ok tt →
    OnOk r (mid ≡ record old { calls = old.calls ++ y ∷ [] }) → new ≡ mid → new ≡ record u { calls = u.calls ++ filter_map f (take (i + 1) es) }
call_added f u old mid new es i d y o r b l e h k n m =
    m ∙ on_ok r tt (mid ≡ record old { calls = old.calls ++ y ∷ [] }) k n ∙ (λ j. record (b j) { calls = (b j).calls ++ y ∷ [] }) ∙
    (λ j. record u { calls = made_next f u.calls es i (get_or es i d) d y l refl (sym e ∙ h) j })

pub call_passed : (f : (ℕ × Letter × ℕ) → Option (ℕ × Letter × ℕ)) (u old new : Automaton) (es : List (ℕ × Letter × ℕ)) (i : ℕ) (d : ℕ × Letter × ℕ) (o : Option (ℕ × Letter × ℕ)) →
    old ≡ record u { calls = u.calls ++ filter_map f (take i es) } → i < length es → o ≡ f (get_or es i d) → o ≡ None → new ≡ old →
    new ≡ record u { calls = u.calls ++ filter_map f (take (i + 1) es) }
call_passed f u old new es i d o b l e h m = m ∙ b ∙ (λ j. record u { calls = none_next f u.calls es i (get_or es i d) d l refl (sym e ∙ h) j })

pub back_added : (f : (ℕ × ℕ × Letter × ℕ) → Option (ℕ × ℕ × Letter × ℕ)) (u old mid new : Automaton) (es : List (ℕ × ℕ × Letter × ℕ)) (i : ℕ) (d y : ℕ × ℕ × Letter × ℕ) (o : Option (ℕ × ℕ × Letter × ℕ)) (r : Result (Unit {0}) NwaFault) →
    old ≡ record u { backs = u.backs ++ filter_map f (take i es) } → i < length es → o ≡ f (get_or es i d) → o ≡ Some y → r ≡ Ok tt →
    OnOk r (mid ≡ record old { backs = old.backs ++ y ∷ [] }) → new ≡ mid → new ≡ record u { backs = u.backs ++ filter_map f (take (i + 1) es) }
back_added f u old mid new es i d y o r b l e h k n m =
    m ∙ on_ok r tt (mid ≡ record old { backs = old.backs ++ y ∷ [] }) k n ∙ (λ j. record (b j) { backs = (b j).backs ++ y ∷ [] }) ∙
    (λ j. record u { backs = made_next f u.backs es i (get_or es i d) d y l refl (sym e ∙ h) j })

pub back_passed : (f : (ℕ × ℕ × Letter × ℕ) → Option (ℕ × ℕ × Letter × ℕ)) (u old new : Automaton) (es : List (ℕ × ℕ × Letter × ℕ)) (i : ℕ) (d : ℕ × ℕ × Letter × ℕ) (o : Option (ℕ × ℕ × Letter × ℕ)) →
    old ≡ record u { backs = u.backs ++ filter_map f (take i es) } → i < length es → o ≡ f (get_or es i d) → o ≡ None → new ≡ old →
    new ≡ record u { backs = u.backs ++ filter_map f (take (i + 1) es) }
back_passed f u old new es i d o b l e h m = m ∙ b ∙ (λ j. record u { backs = none_next f u.backs es i (get_or es i d) d l refl (sym e ∙ h) j })

-- the edges of all kinds, one kind after another
pub edges_added : {T E : Type 0} (f : ℕ → Option ℕ) (b u i k n : Automaton) (xs ys : List (ℕ × Letter × ℕ)) (zs : List (ℕ × ℕ × Letter × ℕ)) (r : Result T E) →
    xs ≡ b.insides → ys ≡ b.calls → zs ≡ b.backs → i ≡ record u { insides = u.insides ++ filter_map (numbered f) xs } →
    k ≡ record i { calls = i.calls ++ filter_map (numbered f) ys } → OnOk r (n ≡ record k { backs = k.backs ++ filter_map (numbered_back f) zs }) →
    OnOk r (n ≡ with_edges f b u)
edges_added f b u i k n xs ys zs (Ok t) ex ey ez ei ek h =
    h ∙ ap (λ (z : Automaton). record z { backs = z.backs ++ filter_map (numbered_back f) zs }) (ek ∙ ap (λ (z : Automaton). record z { calls = z.calls ++ filter_map (numbered f) ys }) ei) ∙
    (λ j. record u {
      insides = u.insides ++ filter_map (numbered f) (ex j);
      calls = u.calls ++ filter_map (numbered f) (ey j);
      backs = u.backs ++ filter_map (numbered_back f) (ez j);
    })
edges_added f b u i k n xs ys zs (Err e) ex ey ez ei ek h = tt
