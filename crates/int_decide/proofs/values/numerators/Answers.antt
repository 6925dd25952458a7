use Rattle.std.proofs.Common.{rules, ◌≡◌, ◌∙◌, ◌++◌, ◌∷◌, [], ◌+◌, ◌<◌, ℕ, ℤ, List, FitsSigned, length, map, take, get_or, ap, sym, subst}
use Rattle.std.specs.Int.{w128}
use Rattle.std.specs.List.{AllByRecursion}
use Rattle.std.proofs.lemmas.Int.{to_z-of_z}
use Rattle.std.proofs.lemmas.List.{take_more, map_more, take_all}
use Rattle.math_facts.specs.Fits.{Fits}
use Rattle.frac.specs.Fractions.{Fraction, IsFraction}
use Rattle.fm_elim.proofs.Lists.{all_append, all_map}
use Rattle.int_decide.proofs.values.numerators.Goals as goal

-- the numerators of one value more
numbers_next : (fs : List Fraction) (i : ℕ) (f : Fraction) (n : ℤ) (ns ms : List ℤ) → i < length fs → f ≡ get_or fs i f → n ≡ f.num →
    ns ≡ map (λ (g : Fraction). g.num) (take i fs) → ms ≡ ns ++ n ∷ [] → ms ≡ map (λ (g : Fraction). g.num) (take (i + 1) fs)
numbers_next fs i f n ns ms l e v h p =
    let m : map (λ (g : Fraction). g.num) (take (i + 1) fs) ≡ map (λ (g : Fraction). g.num) (take i fs) ++ (get_or fs i f).num ∷ [] = map_more (λ (g : Fraction). g.num) fs i f l in
    let k : n ≡ (get_or fs i f).num = v ∙ ap (λ (g : Fraction). g.num) e in
    p ∙ ap (λ (xs : List ℤ). xs ++ n ∷ []) h ∙ ap (λ (x : ℤ). map (λ (g : Fraction). g.num) (take i fs) ++ x ∷ []) k ∙ sym m

-- and it is a fraction, too
valid_next : (fs : List Fraction) (i : ℕ) (f : Fraction) → i < length fs → f ≡ get_or fs i f → IsFraction f → AllByRecursion IsFraction (take i fs) →
    AllByRecursion IsFraction (take (i + 1) fs)
valid_next fs i f l e v h =
    subst (AllByRecursion IsFraction) (sym (take_more fs i f l)) (all_append IsFraction (take i fs) (get_or fs i f ∷ []) h (subst IsFraction e v, tt))

pub loop-value-preserved : goal.loop-value-preserved
loop-value-preserved c =
    let fs = c.args.values.now in
    let i = c.loop-value.value-index in
    let f = c.value-item.result in
    let s : FitsSigned w128 c.num.result = search rules in
    record {
      numbers = numbers_next fs i f c.num.result c.loop-value.numbers.items c.push.new.self.items c.loop-value-test.true c.value-item.is c.num.ensures.value c.loop-value.invariant.numbers
          (simp to_z-of_z at c.in_ok-push.ensures.items);
      valid = valid_next fs i f c.loop-value-test.true c.value-item.is c.num.ensures.valid c.loop-value.invariant.valid;
    }

pub returns-clause-fits : goal.returns-clause-fits
returns-clause-fits c =
    subst (AllByRecursion Fits) (sym c.loop-value.invariant.numbers)
    (all_map IsFraction Fits (λ (f : Fraction). f.num) (take c.loop-value.value-index c.args.values.now) (λ f v. v.num_fits) c.loop-value.invariant.valid)

pub loop-value-init : goal.loop-value-init
loop-value-init c = record { numbers = c.in_ok-numbers.ensures.items; valid = tt }

pub returns-clause-value : goal.returns-clause-value
returns-clause-value c =
    c.loop-value.invariant.numbers ∙ ap (λ (fs : List Fraction). map (λ (f : Fraction). f.num) fs) (take_all c.loop-value.value-index c.args.values.now c.loop-value-test.false)

pub returns-clause-valid : goal.returns-clause-valid
returns-clause-valid c = subst (AllByRecursion IsFraction) (take_all c.loop-value.value-index c.args.values.now c.loop-value-test.false) c.loop-value.invariant.valid
