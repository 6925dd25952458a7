-- Why the loop back over the columns computes what the recursion defines.
use Rattle.std.proofs.Common.{◌≡◌, ◌↔◌, ℕ, suc, ◌+◌, List, [], ◌∷◌, ◌++◌, length, map, refl, sym, ap, ◌∙◌, subst, arith}
use Rattle.std.proofs.lemmas.List.{length-append, map-append}
use Rattle.std.specs.List.{AllByRecursion}
use Rattle.frac.specs.Fractions.{Fraction, IsFraction}
use Rattle.fm_elim.specs.declared.types.Aside.{Aside}
use Rattle.fm_elim.specs.Answers.{Gives, aside_of}
use Rattle.fm_elim.specs.Columns.{SetAside}
use Rattle.fm_elim.specs.Values.{value_of, ValueFits}
use Rattle.fm_elim.specs.Elimination.{point}
use Rattle.fm_elim.specs.Ties.Climb.{ClimbFits, SetsColumn, SetColumns, IsUp}
use Rattle.fm_elim.proofs.Lists.{all_append}
use Rattle.fm_elim.proofs.Climbing.{climb_push, climb_fits_push, set_columns_push}

pub up_start : (n : ℕ) (given : List SetAside) → length given ≡ n → SetColumns n given → IsUp n given given []
up_start n given l s = record { value = refl; fits = (λ x. x, λ x. x); height = (let e : 0 + length given ≡ length given = omega arith in e ∙ l); set = s }

-- the last that is set aside is taken
module _ (n : ℕ) (given rest : List SetAside) (a : SetAside) (values : List Fraction) (d : IsUp n given (rest ++ a ∷ []) values) where
  height : suc (length values) + length rest ≡ n
  height =
      let e : length (rest ++ a ∷ []) ≡ length rest + length (a ∷ []) = length-append rest (a ∷ []) in
      let o : length (a ∷ []) ≡ 1 = refl in
      let h : length values + length (rest ++ a ∷ []) ≡ n = d.height in
      omega arith

  -- the column stands in it
  pub up_sets : SetsColumn (length values) a
  up_sets = ((set_columns_push n (length values) rest a height).0 d.set).1

  fits_taken : ClimbFits n (rest ++ a ∷ []) (point values) ↔ (ClimbFits n rest (point (values ++ value_of (length values) values a ∷ [])) × ValueFits (length values) values a)
  fits_taken = climb_fits_push n (length values) rest a (point values) height

  -- the numbers of its value are among all
  pub up_fits : ClimbFits n given (point []) → ValueFits (length values) values a
  up_fits x = (fits_taken.0 (d.fits.0 x)).1

  pub up_more : (v : Fraction) → ValueFits (length values) values a → v ≡ value_of (length values) values a → IsUp n given rest (values ++ v ∷ [])
  up_more v f e =
      subst (λ (w : Fraction). IsUp n given rest (values ++ w ∷ [])) (sym e)
      (record {
        value = d.value ∙ climb_push n (length values) rest a (point values) height;
        fits = (λ x. (fits_taken.0 (d.fits.0 x)).0, λ x. d.fits.1 (fits_taken.1 (x, f)));
        height = (let g : length (values ++ value_of (length values) values a ∷ []) ≡ length values + length (value_of (length values) values a ∷ []) = length-append values (value_of (length values) values a ∷ []) in
            let o : length (value_of (length values) values a ∷ []) ≡ 1 = refl in
            let h : suc (length values) + length rest ≡ n = height in
            omega arith);
        set = ((set_columns_push n (length values) rest a height).0 d.set).0;
      })

-- the same as the loop has it
module _ (n k : ℕ) (given : List SetAside) (asides rest : List Aside) (a : Aside) (values seen : List Fraction) (d : IsUp n given (map aside_of asides) values) (l : k ≡ length values)
    (e : asides ≡ rest ++ a ∷ []) (s : seen ≡ values) where
  taken : IsUp n given (map aside_of rest ++ aside_of a ∷ []) values
  taken = subst (λ (xs : List SetAside). IsUp n given xs values) (ap (λ (xs : List Aside). map aside_of xs) e ∙ map-append aside_of rest (a ∷ [])) d

  pub loop_sets : SetsColumn k (aside_of a)
  loop_sets = subst (λ (m : ℕ). SetsColumn m (aside_of a)) (sym l) (up_sets n given (map aside_of rest) (aside_of a) values taken)

  pub loop_fits : ClimbFits n given (point []) → ValueFits k seen (aside_of a)
  loop_fits x =
      subst (λ (xs : List Fraction). ValueFits k xs (aside_of a)) (sym s)
      (subst (λ (m : ℕ). ValueFits m values (aside_of a)) (sym l) (up_fits n given (map aside_of rest) (aside_of a) values taken x))

  pub loop_more : (v : Fraction) (next : List Fraction) → ValueFits k seen (aside_of a) × Gives (value_of k seen (aside_of a)) v → next ≡ values ++ v ∷ [] →
      IsUp n given (map aside_of rest) next
  loop_more v next g q =
      let g2 : ValueFits (length values) values (aside_of a) × Gives (value_of (length values) values (aside_of a)) v =
      subst (λ (m : ℕ). ValueFits m values (aside_of a) × Gives (value_of m values (aside_of a)) v) l
      (subst (λ (xs : List Fraction). ValueFits k xs (aside_of a) × Gives (value_of k xs (aside_of a)) v) s g) in
      subst (λ (xs : List Fraction). IsUp n given (map aside_of rest) xs) (sym q) (up_more n given (map aside_of rest) (aside_of a) values taken v g2.0 g2.1.1)

pub values_more : (values next : List Fraction) (v : Fraction) → AllByRecursion IsFraction values → IsFraction v → next ≡ values ++ v ∷ [] → AllByRecursion IsFraction next
values_more values next v h f q =
    subst (λ (xs : List Fraction). AllByRecursion IsFraction xs) (sym q) (all_append IsFraction values (v ∷ []) h (f, tt))

pub length_more : (k : ℕ) (values next : List Fraction) (v : Fraction) → k ≡ length values → next ≡ values ++ v ∷ [] → k + 1 ≡ length next
length_more k values next v l q =
    let e : length (values ++ v ∷ []) ≡ length values + length (v ∷ []) = length-append values (v ∷ []) in
    let o : length (v ∷ []) ≡ 1 = refl in
    let g : length next ≡ length (values ++ v ∷ []) = ap (λ (xs : List Fraction). length xs) q in
    omega arith
