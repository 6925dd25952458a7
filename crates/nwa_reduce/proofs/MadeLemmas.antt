-- Images that are built edge by edge.
use Rattle.std.proofs.Common.{◌≡◌, ◌∙◌, ◌↔◌, ℕ, List, [], ◌++◌, Option, Some, Result, Ok, Err, IfOk, OnOk, refl, sym, ap, subst}
use Rattle.nwa_base.specs.declared.letters.Letter.{Letter}
use Rattle.nwa_base.specs.Members.{Member}
use Rattle.nwa_base.specs.Automata.{Automaton}
use Rattle.nwa_reduce.specs.Images.{Among, IsNamedEdge, IsNamedBack, IsImage}
use Rattle.nwa_reduce.proofs.CollectLemmas.{IsCollected}

pub made_ok : {A E : Type 0} (r : Result A E) (x : A) (P : A → Type 0) → r ≡ Ok x → IfOk r P → P x
made_ok {A} {E} r x P e h = subst (λ (z : Result A E). IfOk z P) e h

pub if_ok_so : {T E : Type 0} {P Q : T → Type 0} (r : Result T E) → IfOk r P → ((x : T) → P x → Q x) → IfOk r Q
if_ok_so (Ok x) h f = f x h
if_ok_so (Err e) h f = tt

pub on_ok : {T E P Q : Type 0} (r : Result T E) → (P → Q) → OnOk r P → OnOk r Q
on_ok (Ok x) f h = f h
on_ok (Err e) f h = h

-- an automaton that was made without edges has none
pub bare_is : (e : Automaton) (count start : ℕ) → e ≡ record { states = count; start = start; finals = []; insides = []; calls = []; backs = [] } →
    e ≡ record { states = e.states; start = e.start; finals = []; insides = []; calls = []; backs = [] }
bare_is e count start o =
    subst (λ (z : Automaton). z ≡ record { states = z.states; start = z.start; finals = []; insides = []; calls = []; backs = [] }) (sym o) refl

of_list : {X Y : Type 0} (R : X → Y → Type 0) (xs : List X) (ys zs : List Y) → zs ≡ ys → IsCollected R xs ys → (y : Y) → Member zs y ↔ Among R xs y
of_list {X} {Y} R xs ys zs e h y = subst (λ (l : List Y). Member l y ↔ Among R xs y) (sym e) (h y)

-- the states and edges that were added, one kind after another, to the automaton without any
pub image_made : (m e f i k b : Automaton) (name : ℕ → Option ℕ) (count start : ℕ) (finals : List ℕ) (insides calls : List (ℕ × Letter × ℕ))
    (backs : List (ℕ × ℕ × Letter × ℕ)) → name m.start ≡ Some start →
    e ≡ record { states = count; start = start; finals = []; insides = []; calls = []; backs = [] } →
    f ≡ record e { finals = e.finals ++ finals } → i ≡ record f { insides = f.insides ++ insides } → k ≡ record i { calls = i.calls ++ calls } →
    b ≡ record k { backs = k.backs ++ backs } → IsCollected (λ (q y : ℕ). name q ≡ Some y) m.finals finals → IsCollected (IsNamedEdge name) m.insides insides →
    IsCollected (IsNamedEdge name) m.calls calls → IsCollected (IsNamedBack name) m.backs backs → IsImage m name b × (b.states ≡ count)
image_made m e f i k b name count start finals insides calls backs s o p q r t cf ci cd cb = (
  record {
    start = s ∙ sym (ap (λ (z : ℕ). Some z) (ap (λ (z : Automaton). z.start) t ∙ ap (λ (z : Automaton). z.start) r ∙ ap (λ (z : Automaton). z.start) q ∙
        ap (λ (z : Automaton). z.start) p ∙ ap (λ (z : Automaton). z.start) o));
    finals =
        of_list (λ (x y : ℕ). name x ≡ Some y) m.finals finals b.finals
        (ap (λ (z : Automaton). z.finals) t ∙ ap (λ (z : Automaton). z.finals) r ∙ ap (λ (z : Automaton). z.finals) q ∙
        ap (λ (z : Automaton). z.finals) p ∙ ap (λ (z : Automaton). z.finals ++ finals) o) cf;
    insides =
        of_list (IsNamedEdge name) m.insides insides b.insides
        (ap (λ (z : Automaton). z.insides) t ∙ ap (λ (z : Automaton). z.insides) r ∙ ap (λ (z : Automaton). z.insides) q ∙
        ap (λ (z : Automaton). z.insides ++ insides) p ∙ ap (λ (z : Automaton). z.insides ++ insides) o) ci;
    calls =
        of_list (IsNamedEdge name) m.calls calls b.calls
        (ap (λ (z : Automaton). z.calls) t ∙ ap (λ (z : Automaton). z.calls) r ∙ ap (λ (z : Automaton). z.calls ++ calls) q ∙
        ap (λ (z : Automaton). z.calls ++ calls) p ∙ ap (λ (z : Automaton). z.calls ++ calls) o) cd;
    backs =
        of_list (IsNamedBack name) m.backs backs b.backs
        (ap (λ (z : Automaton). z.backs) t ∙ ap (λ (z : Automaton). z.backs ++ backs) r ∙ ap (λ (z : Automaton). z.backs ++ backs) q ∙
        ap (λ (z : Automaton). z.backs ++ backs) p ∙ ap (λ (z : Automaton). z.backs ++ backs) o) cb;
  },
  ap (λ (z : Automaton). z.states) t ∙ ap (λ (z : Automaton). z.states) r ∙ ap (λ (z : Automaton). z.states) q ∙ ap (λ (z : Automaton). z.states) p ∙
      ap (λ (z : Automaton). z.states) o,
)

pub collected_from : {X Y : Type 0} (R : X → Y → Type 0) (xs xs' : List X) (ys ys' : List Y) → xs ≡ xs' → ys' ≡ ys → IsCollected R xs ys → IsCollected R xs' ys'
collected_from {X} {Y} R xs xs' ys ys' e f h =
    subst (λ (l : List X). IsCollected R l ys') e (subst (λ (l : List Y). IsCollected R xs l) (sym f) h)
