-- Triples that are picked one after another.
use Rattle.std.proofs.Common.{◌≡◌, ◌∙◌, ◌<◌, ◌≤◌, ◌+◌, ℕ, List, [], ◌∷◌, ◌++◌, Option, None, Some, length, take, get_or, refl, sym, ap, subst, inl, inr}
use Rattle.std.specs.Prelude.{map, slice_get, MatchOption}
use Rattle.std.specs.List.{AllByRecursion}
use Rattle.std.proofs.lemmas.List.{take_more, take_all}
use Rattle.nwa_base.specs.Members.{Member, SameMembers}
use Rattle.nwa_base.proofs.MemberLemmas.{member_front, member_rest, member_split}
use Rattle.letter_acts.specs.Acts.{PlainAct, inside_act, call_act, back_act}
use Rattle.letter_acts.specs.Invariant.{Graph, alphabet_of}
use Rattle.triple_rows.specs.declared.triples.Scoped.{Scoped}
use Rattle.triple_rows.specs.declared.triples.Triple.{Triple}
use Rattle.triple_rows.specs.Triples.{Agrees}
use Rattle.proof_names.specs.declared.outlines.Listed.{Listed}
use Rattle.proof_names.specs.Naming.{triple_at}
use Rattle.proof_names.specs.Scopes.{call_scopes}
use Rattle.proof_reuse.specs.Ties.Choices.{Taken, three_choices, back_listed, return_choices, act_choices, choices_by, IsPicked, ArePicked}
use Rattle.proof_reuse.proofs.SetLaws.{same_along, same_start}
use Rattle.proof_reuse.proofs.ChoiceLaws.{image_there, origin_of}

-- lists with the same members have images with the same members
pub same_map : {X Y : Type 0} (f : X → Y) (xs ys : List X) → SameMembers xs ys → SameMembers (map f xs) (map f ys)
same_map {X} {Y} f xs ys s = record {
  there = λ y m. let r = origin_of f xs y m in subst (λ (z : Y). Member (map f ys) z) r.2 (image_there f ys r.0 (s.there r.0 r.1));
  back = λ y m. let r = origin_of f ys y m in subst (λ (z : Y). Member (map f xs) z) r.2 (image_there f xs r.0 (s.back r.0 r.1));
}

-- the choices by a letter are those by its act
pub choices_at : (g : Graph) (t : Taken) (l : ℕ) (a : PlainAct) (listed : List Listed) → slice_get g.acts l ≡ Some a → SameMembers listed (act_choices g.acts t l (Some a)) →
    SameMembers listed (choices_by g t l)
choices_at g t l a listed e s = subst (λ (o : Option PlainAct). SameMembers listed (act_choices g.acts t l o)) (sym e) s

-- those by a return letter, by the procedures of its call
pub none_returned : (t : Taken) (l : ℕ) (o : Option PlainAct) → call_scopes o ≡ None → return_choices t l o ≡ []
none_returned t l None e = refl
none_returned t l (Some (inside_act p written helpers rows)) e = refl
none_returned t l (Some (call_act caller callee helpers rows)) e = absurd (cc)
none_returned t l (Some (back_act c targets)) e = refl

pub all_returned : (t : Taken) (l : ℕ) (o : Option PlainAct) (s : ℕ × ℕ) → call_scopes o ≡ Some s → return_choices t l o ≡ map (back_listed l) (three_choices t.preds t.backs s.1 s.0)
all_returned t l None s e = absurd (cc)
all_returned t l (Some (inside_act p written helpers rows)) s e = absurd (cc)
all_returned t l (Some (call_act caller callee helpers rows)) s e =
    let f : (caller, callee) ≡ s = cc in
    ap (λ (z : ℕ × ℕ). map (back_listed l) (three_choices t.preds t.backs z.1 z.0)) f
all_returned t l (Some (back_act c targets)) s e = absurd (cc)

-- what is made of each of the choices
pub mapped_same : {X Y : Type 0} (f : X → Y) (items : List Y) (taken keys xs : List X) (ys : List Y) → items ≡ map f taken → taken ≡ keys → SameMembers keys xs → map f xs ≡ ys → SameMembers items ys
mapped_same {X} {Y} f items taken keys xs ys e k s h =
    same_start items (map f keys) ys (e ∙ ap (map f) k) (same_along (map f keys) (map f xs) ys h (same_map f keys xs s))

module _ (g : Graph) (preds : List Scoped) where
  abbrev Comes : List Listed → Triple → Type 0
  Comes xs t = (x : Listed) × Member xs x × IsPicked g preds x t

  come_later : (xs : List Listed) (x : Listed) (ts : List Triple) → AllByRecursion (Comes xs) ts → AllByRecursion (Comes (xs ++ x ∷ [])) ts
  come_later xs x [] h = tt
  come_later xs x (t ∷ ts) h = ((h.0.0, member_front xs (x ∷ []) h.0.0 h.0.1, h.0.2), come_later xs x ts h.1)

  come_more : (xs : List Listed) (ts : List Triple) (t : Triple) → AllByRecursion (Comes xs) ts → Comes xs t → AllByRecursion (Comes xs) (ts ++ t ∷ [])
  come_more xs [] t h k = (k, tt)
  come_more xs (u ∷ ts) t h k = (h.0, come_more xs ts t h.1 k)

  pub picked_none : (ts : List Triple) → ts ≡ [] → ArePicked g preds [] ts
  picked_none ts e = record { each = subst (λ (l : List Triple). AllByRecursion (Comes []) l) (sym e) tt; all = λ x t m k. absurd m }

  some_one : (t u : Triple) → Some t ≡ Some u → t ≡ u
  some_one t u e = cc

  one_triple : (x : Listed) (t u : Triple) → IsPicked g preds x t → IsPicked g preds x u → t ≡ u
  one_triple x t u h k = some_one t u (sym h.is ∙ k.is)

  -- no triple is picked where none has these numbers, nor where the one that has does not agree
  pub none_there : (x : Listed) (o : Option Triple) → o ≡ triple_at g.acts (slice_get preds) x → ((t : Triple) → o ≡ Some t → ⊥) → (t : Triple) → IsPicked g preds x t → ⊥
  none_there x o e n t h = n t (e ∙ h.is)

  pub none_agrees : (x : Listed) (o : Option Triple) (t : Triple) → o ≡ triple_at g.acts (slice_get preds) x → o ≡ Some t → (Agrees (alphabet_of g) t → ⊥) → (u : Triple) → IsPicked g preds x u → ⊥
  none_agrees x o t e s n u h = n (subst (Agrees (alphabet_of g)) (sym (some_one t u (sym s ∙ e ∙ h.is))) h.agrees)

  -- what was picked, or that nothing was
  abbrev MayBePicked : Listed → Option Triple → Type 0
  MayBePicked x o = MatchOption o ((u : Triple) → IsPicked g preds x u → ⊥) (IsPicked g preds x)

  was_picked : (x : Listed) (o : Option Triple) (t : Triple) → MayBePicked x o → o ≡ Some t → IsPicked g preds x t
  was_picked x o t m e = subst (MayBePicked x) e m

  none_was_picked : (x : Listed) (o : Option Triple) → MayBePicked x o → o ≡ None → (t : Triple) → IsPicked g preds x t → ⊥
  none_was_picked x o m e = subst (MayBePicked x) e m

  picked_more : (xs : List Listed) (x : Listed) (t : Triple) (ts new : List Triple) → ArePicked g preds xs ts → IsPicked g preds x t → new ≡ ts ++ t ∷ [] → ArePicked g preds (xs ++ x ∷ []) new
  picked_more xs x t ts new h k e = subst (λ (l : List Triple). ArePicked g preds (xs ++ x ∷ []) l) (sym e) (record {
    each = come_more (xs ++ x ∷ []) ts t (come_later xs x ts h.each) (x, member_rest xs (x ∷ []) x (inl refl), k);
    all = λ y u m i. elim (member_split xs (x ∷ []) y m) [
      | inl o ↦ member_front ts (t ∷ []) u (h.all y u o i)
      | inr o ↦ elim o [
        | inl f ↦ member_rest ts (t ∷ []) u (inl (one_triple x t u k (subst (λ (z : Listed). IsPicked g preds z u) (sym f) i)))
        | inr none ↦ absurd none
      ]
    ];
  })

  picked_less : (xs : List Listed) (x : Listed) (ts : List Triple) → ArePicked g preds xs ts → ((t : Triple) → IsPicked g preds x t → ⊥) → ArePicked g preds (xs ++ x ∷ []) ts
  picked_less xs x ts h n = record {
    each = come_later xs x ts h.each;
    all = λ y u m i. elim (member_split xs (x ∷ []) y m) [
      | inl o ↦ h.all y u o i
      | inr o ↦ elim o [ inl f ↦ absurd (n u (subst (λ (z : Listed). IsPicked g preds z u) (sym f) i)) | inr none ↦ absurd none ]
    ];
  }

  pub picked_next : (xs : List Listed) (i : ℕ) (d : Listed) (o : Option Triple) (t : Triple) (ts new : List Triple) → i < length xs → MayBePicked (get_or xs i d) o → o ≡ Some t →
      new ≡ ts ++ t ∷ [] → ArePicked g preds (take i xs) ts → ArePicked g preds (take (i + 1) xs) new
  picked_next xs i d o t ts new l m e f h =
      subst (λ (zs : List Listed). ArePicked g preds zs new) (sym (take_more xs i d l)) (picked_more (take i xs) (get_or xs i d) t ts new h (was_picked (get_or xs i d) o t m e) f)

  pub picked_past : (xs : List Listed) (i : ℕ) (d : Listed) (o : Option Triple) (ts : List Triple) → i < length xs → MayBePicked (get_or xs i d) o → o ≡ None →
      ArePicked g preds (take i xs) ts → ArePicked g preds (take (i + 1) xs) ts
  picked_past xs i d o ts l m e h =
      subst (λ (zs : List Listed). ArePicked g preds zs ts) (sym (take_more xs i d l)) (picked_less (take i xs) (get_or xs i d) ts h (none_was_picked (get_or xs i d) o m e))

  pub picked_all : (xs : List Listed) (i : ℕ) (ts : List Triple) → length xs ≤ i → ArePicked g preds (take i xs) ts → ArePicked g preds xs ts
  picked_all xs i ts l h = subst (λ (zs : List Listed). ArePicked g preds zs ts) (take_all i xs l) h

  all_agree : (xs : List Listed) (ts : List Triple) → AllByRecursion (Comes xs) ts → AllByRecursion (Agrees (alphabet_of g)) ts
  all_agree xs [] h = tt
  all_agree xs (t ∷ ts) h = (h.0.2.agrees, all_agree xs ts h.1)

  pub picked_agree : (xs : List Listed) (ts : List Triple) → ArePicked g preds xs ts → AllByRecursion (Agrees (alphabet_of g)) ts
  picked_agree xs ts h = all_agree xs ts h.each
