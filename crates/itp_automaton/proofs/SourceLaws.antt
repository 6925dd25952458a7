-- Sources: all triples over the states by a letter whose kinds and scopes agree come from them.
use Rattle.std.proofs.Common.{◌≡◌, ◌∙◌, ℕ, zero, suc, ◌+◌, ◌<◌, List, [], ◌∷◌, ◌++◌, length, take, get_or, map, append_assoc, append-nil, Option, None, Some, refl, sym, ap, subst, inl, inr, arith}
use Rattle.std.specs.Prelude.{slice_get}
use Rattle.std.specs.List.{AllByRecursion, flat_map}
use Rattle.std.proofs.lemmas.List.{take_more, map_more}
use Rattle.nwa_base.specs.Members.{Member}
use Rattle.nwa_base.proofs.MemberLemmas.{member_front, member_rest, member_split, member_map, member_from_map}
use Rattle.letter_acts.specs.Acts.{PlainAct, inside_act, call_act, back_act, Alphabet}
use Rattle.triple_rows.specs.declared.triples.Scoped.{Scoped}
use Rattle.triple_rows.specs.declared.triples.Triple.{Triple}
use Rattle.triple_rows.specs.declared.triples.Triple.TheVariants as triples
use Rattle.triple_rows.specs.Triples.{IsScoped, InsideAgrees, CallAgrees, ReturnAgrees, BackAgrees, Agrees}
use Rattle.itp_automaton.specs.declared.sources.Source.{Source}
use Rattle.itp_automaton.specs.declared.sources.Source.TheVariants.{Inside, Call, Back}
use Rattle.itp_automaton.specs.Settling.{NamesStates, letter_in, state_at, IsWithin, AgreesTo, IsFrom, AreSources, IsStateIn, AreStatesIn, AreReturnSources, AreActSources}
use Rattle.itp_automaton.proofs.StateLaws.{place_of, take_next}
use Rattle.itp_automaton.proofs.EdgeLaws.{place_below}
use Rattle.itp_automaton.proofs.BuiltLaws.{all_of, all_member}

-- ---- lists that are made member by member

pub mapped_next : {X Y : Type 0} (f : X → Y) (xs : List X) (i : ℕ) (d : X) (old new : List Y) → i < length xs → old ≡ map f (take i xs) →
    new ≡ old ++ f (get_or xs i d) ∷ [] → new ≡ map f (take (i + 1) xs)
mapped_next f xs i d old new l h e = e ∙ ap (λ (ys : List _). ys ++ f (get_or xs i d) ∷ []) h ∙ sym (map_more f xs i d l)

pub mapped_behind : {X Y : Type 0} (f : X → Y) (xs : List X) (i : ℕ) (d : X) (begin old new : List Y) → i < length xs → old ≡ begin ++ map f (take i xs) →
    new ≡ old ++ f (get_or xs i d) ∷ [] → new ≡ begin ++ map f (take (i + 1) xs)
mapped_behind f xs i d begin old new l h e =
    e ∙ ap (λ (ys : List _). ys ++ f (get_or xs i d) ∷ []) h ∙ append_assoc begin (map f (take i xs)) (f (get_or xs i d) ∷ []) ∙
    ap (λ (ys : List _). begin ++ ys) (sym (map_more f xs i d l))

flat_behind : {X Y : Type 0} (f : X → List Y) (xs : List X) (x : X) → flat_map f (xs ++ x ∷ []) ≡ flat_map f xs ++ f x
flat_behind f [] x = append-nil (f x)
flat_behind f (y ∷ xs) x = ap (λ (ys : List _). f y ++ ys) (flat_behind f xs x) ∙ sym (append_assoc (f y) (flat_map f xs) (f x))

pub flat_next : {X Y : Type 0} (f : X → List Y) (xs : List X) (i : ℕ) (d : X) (old new : List Y) → i < length xs → old ≡ flat_map f (take i xs) →
    new ≡ old ++ f (get_or xs i d) → new ≡ flat_map f (take (i + 1) xs)
flat_next f xs i d old new l h e =
    e ∙ ap (λ (ys : List _). ys ++ f (get_or xs i d)) h ∙ sym (flat_behind f (take i xs) (get_or xs i d)) ∙ ap (flat_map f) (sym (take_more xs i d l))

pub taken_next : {X : Type 0} (xs : List X) (i : ℕ) (x y : X) (old new : List X) → i < length xs → x ≡ get_or xs i x → y ≡ x → old ≡ take i xs →
    new ≡ old ++ y ∷ [] → new ≡ take (i + 1) xs
taken_next xs i x y old new l g s h e = e ∙ (λ k. h k ++ s k ∷ []) ∙ sym (take_next xs i x l g)

-- the predicate at a place
pub state_stands : (preds : List Scoped) (q : ℕ) (s : Scoped) → slice_get preds q ≡ Some s → state_at preds q ≡ s
state_stands [] q s e = absurd cc
state_stands (p ∷ preds) zero s e = cc
state_stands (p ∷ preds) (suc q) s e = state_stands preds q s e

pub state_listed : (preds : List Scoped) (q : ℕ) → q < length preds → Member preds (state_at preds q)
state_listed [] q lt = absurd (omega arith)
state_listed (p ∷ preds) zero lt = inl refl
state_listed (p ∷ preds) (suc q) lt = inr (state_listed preds q (omega arith))

-- a predicate that is a state in a scope, at its place
pub in_scope : (al : Alphabet) (preds : List Scoped) (proc : ℕ) (found : List ℕ) (s : Scoped) → AreStatesIn al preds proc found → IsScoped al proc s → Member preds s →
    (q : ℕ) × Member found q × (state_at preds q ≡ s)
in_scope al preds proc found s f h m =
    let place = place_of preds s m in
    let is = state_stands preds place.0 s place.1 in
    (place.0, f.all place.0 (record { below = place_below preds place.0 s place.1; scoped = subst (λ (x : Scoped). IsScoped al proc x) (sym is) h }), is)

-- ---- no sources

none_from : (al : Alphabet) (preds : List Scoped) (letter proc : ℕ) (sources : List Source) → sources ≡ [] →
    ((t : Triple) → Agrees al t → letter_in t ≡ letter → ⊥) → AreSources al preds letter proc sources
none_from al preds letter proc sources e none = record {
  within = subst (λ (l : List Source). AllByRecursion (IsWithin (length preds)) l) (sym e) tt;
  agree = subst (λ (l : List Source). AllByRecursion (AgreesTo al preds letter proc) l) (sym e) tt;
  all = λ t a l n. absurd (none t a l);
}

-- ---- inside letters

inside_from : (al : Alphabet) (preds : List Scoped) (letter p : ℕ) (written : List ℕ) (helpers : ℕ) (rows : List _) (found : List ℕ) → slice_get al.acts letter ≡ Some (inside_act p written helpers rows) →
    AreStatesIn al preds p found → AreSources al preds letter p (map Inside found)
inside_from al preds letter p written helpers rows found e f = record {
  within = all_of (IsWithin (length preds)) (map Inside found) (λ s m. let r = member_from_map Inside found s m in
      subst (IsWithin (length preds)) r.2 (all_member (IsStateIn al preds p) found r.0 f.each r.1).below);
  agree = all_of (AgreesTo al preds letter p) (map Inside found) (λ s m. let r = member_from_map Inside found s m in
      subst (AgreesTo al preds letter p) r.2 (λ after h. subst (λ (o : Option PlainAct). InsideAgrees al o (state_at preds r.0) after) (sym e)
      ((all_member (IsStateIn al preds p) found r.0 f.each r.1).scoped, h)));
  all = all;
}
  where
    all : (t : Triple) → Agrees al t → letter_in t ≡ letter → NamesStates preds t → IsFrom al preds letter p (map Inside found) t
    all (triples.Inside before l after) a is n =
        let h : IsScoped al p before × IsScoped al p after = subst (λ (o : Option PlainAct). InsideAgrees al o before after) (ap (slice_get al.acts) is ∙ e) a in
        let r = in_scope al preds p found before f h.0 n.0 in
        record { source = Inside r.0; after = after; listed = member_map Inside found r.0 r.1; scoped = h.1; state = n.1.0; is = λ i. triples.Inside (sym r.2 i) (is i) after }
    all (triples.Call before l after) a is n =
        let h : ⊥ = subst (λ (o : Option PlainAct). CallAgrees al o before after) (ap (slice_get al.acts) is ∙ e) a in absurd h
    all (triples.Back exit before l after) a is n =
        let h : ⊥ = subst (λ (o : Option PlainAct). BackAgrees al o exit before after) (ap (slice_get al.acts) is ∙ e) a in absurd h

-- ---- call letters

call_from : (al : Alphabet) (preds : List Scoped) (letter caller callee helpers : ℕ) (rows : List _) (found : List ℕ) → slice_get al.acts letter ≡ Some (call_act caller callee helpers rows) →
    AreStatesIn al preds caller found → AreSources al preds letter callee (map Call found)
call_from al preds letter caller callee helpers rows found e f = record {
  within = all_of (IsWithin (length preds)) (map Call found) (λ s m. let r = member_from_map Call found s m in
      subst (IsWithin (length preds)) r.2 (all_member (IsStateIn al preds caller) found r.0 f.each r.1).below);
  agree = all_of (AgreesTo al preds letter callee) (map Call found) (λ s m. let r = member_from_map Call found s m in
      subst (AgreesTo al preds letter callee) r.2 (λ after h. subst (λ (o : Option PlainAct). CallAgrees al o (state_at preds r.0) after) (sym e)
      ((all_member (IsStateIn al preds caller) found r.0 f.each r.1).scoped, h)));
  all = all;
}
  where
    all : (t : Triple) → Agrees al t → letter_in t ≡ letter → NamesStates preds t → IsFrom al preds letter callee (map Call found) t
    all (triples.Inside before l after) a is n =
        let h : ⊥ = subst (λ (o : Option PlainAct). InsideAgrees al o before after) (ap (slice_get al.acts) is ∙ e) a in absurd h
    all (triples.Call before l after) a is n =
        let h : IsScoped al caller before × IsScoped al callee after = subst (λ (o : Option PlainAct). CallAgrees al o before after) (ap (slice_get al.acts) is ∙ e) a in
        let r = in_scope al preds caller found before f h.0 n.0 in
        record { source = Call r.0; after = after; listed = member_map Call found r.0 r.1; scoped = h.1; state = n.1.0; is = λ i. triples.Call (sym r.2 i) (is i) after }
    all (triples.Back exit before l after) a is n =
        let h : ⊥ = subst (λ (o : Option PlainAct). BackAgrees al o exit before after) (ap (slice_get al.acts) is ∙ e) a in absurd h

-- ---- returns

flat_from : {X Y : Type 0} (f : X → List Y) (xs : List X) (y : Y) → Member (flat_map f xs) y → (x : X) × Member xs x × Member (f x) y
flat_from f [] y m = absurd m
flat_from f (x ∷ xs) y m = elim (member_split (f x) (flat_map f xs) y m) [
  | inl k ↦ (x, inl refl, k)
  | inr k ↦ let r = flat_from f xs y k in (r.0, inr r.1, r.2)
]

flat_to : {X Y : Type 0} (f : X → List Y) (xs : List X) (x : X) (y : Y) → Member xs x → Member (f x) y → Member (flat_map f xs) y
flat_to f [] x y m k = absurd m
flat_to f (z ∷ xs) x y (inl e) k = member_front (f z) (flat_map f xs) y (subst (λ v. Member (f v) y) (sym e) k)
flat_to f (z ∷ xs) x y (inr m) k = member_rest (f z) (flat_map f xs) y (flat_to f xs x y m k)

-- the sources with these exits and callers
abbrev pairs : List ℕ → List ℕ → List Source
pairs exits callers = flat_map (λ exit. map (Back exit) callers) exits

back_from : (al : Alphabet) (preds : List Scoped) (letter call : ℕ) (targets : List ℕ) (caller callee helpers : ℕ) (rows : List _) (exits callers : List ℕ) →
    slice_get al.acts letter ≡ Some (back_act call targets) → slice_get al.acts call ≡ Some (call_act caller callee helpers rows) →
    AreStatesIn al preds callee exits → AreStatesIn al preds caller callers → AreSources al preds letter caller (pairs exits callers)
back_from al preds letter call targets caller callee helpers rows exits callers e d x f = record {
  within = all_of (IsWithin (length preds)) (pairs exits callers) (λ s m.
      let r = flat_from (λ exit. map (Back exit) callers) exits s m in
      let k = member_from_map (Back r.0) callers s r.2 in
      subst (IsWithin (length preds)) k.2 ((all_member (IsStateIn al preds callee) exits r.0 x.each r.1).below, (all_member (IsStateIn al preds caller) callers k.0 f.each k.1).below));
  agree = all_of (AgreesTo al preds letter caller) (pairs exits callers) (λ s m.
      let r = flat_from (λ exit. map (Back exit) callers) exits s m in
      let k = member_from_map (Back r.0) callers s r.2 in
      subst (AgreesTo al preds letter caller) k.2 (λ after h.
      subst (λ (o : Option PlainAct). BackAgrees al o (state_at preds r.0) (state_at preds k.0) after) (sym e)
      (subst (λ (o : Option PlainAct). ReturnAgrees al o (state_at preds r.0) (state_at preds k.0) after) (sym d)
      ((all_member (IsStateIn al preds callee) exits r.0 x.each r.1).scoped, (all_member (IsStateIn al preds caller) callers k.0 f.each k.1).scoped, h))));
  all = all;
}
  where
    all : (t : Triple) → Agrees al t → letter_in t ≡ letter → NamesStates preds t → IsFrom al preds letter caller (pairs exits callers) t
    all (triples.Inside before l after) a is n =
        let h : ⊥ = subst (λ (o : Option PlainAct). InsideAgrees al o before after) (ap (slice_get al.acts) is ∙ e) a in absurd h
    all (triples.Call before l after) a is n =
        let h : ⊥ = subst (λ (o : Option PlainAct). CallAgrees al o before after) (ap (slice_get al.acts) is ∙ e) a in absurd h
    all (triples.Back exit before l after) a is n =
        let k : ReturnAgrees al (slice_get al.acts call) exit before after = subst (λ (o : Option PlainAct). BackAgrees al o exit before after) (ap (slice_get al.acts) is ∙ e) a in
        let h : IsScoped al callee exit × IsScoped al caller before × IsScoped al caller after = subst (λ (o : Option PlainAct). ReturnAgrees al o exit before after) d k in
        let q = in_scope al preds callee exits exit x h.0 n.0 in
        let p = in_scope al preds caller callers before f h.1 n.1.0 in
        record {
          source = Back q.0 p.0;
          after = after;
          listed = flat_to (λ exit. map (Back exit) callers) exits q.0 (Back q.0 p.0) q.1 (member_map (Back q.0) callers p.0 p.1);
          scoped = h.2;
          state = n.1.1.0;
          is = λ i. triples.Back (sym q.2 i) (sym p.2 i) (is i) after;
        }

-- ---- letters

-- a letter without an act of its own, or a return without a call
no_act : (al : Alphabet) (letter : ℕ) → slice_get al.acts letter ≡ None → (t : Triple) → Agrees al t → letter_in t ≡ letter → ⊥
no_act al letter e (triples.Inside before l after) a is = subst (λ (o : Option PlainAct). InsideAgrees al o before after) (ap (slice_get al.acts) is ∙ e) a
no_act al letter e (triples.Call before l after) a is = subst (λ (o : Option PlainAct). CallAgrees al o before after) (ap (slice_get al.acts) is ∙ e) a
no_act al letter e (triples.Back exit before l after) a is = subst (λ (o : Option PlainAct). BackAgrees al o exit before after) (ap (slice_get al.acts) is ∙ e) a

no_call : (al : Alphabet) (letter call : ℕ) (targets : List ℕ) → slice_get al.acts letter ≡ Some (back_act call targets) → ((exit before after : Scoped) → ReturnAgrees al (slice_get al.acts call) exit before after → ⊥) →
    (t : Triple) → Agrees al t → letter_in t ≡ letter → ⊥
no_call al letter call targets e none (triples.Inside before l after) a is = subst (λ (o : Option PlainAct). InsideAgrees al o before after) (ap (slice_get al.acts) is ∙ e) a
no_call al letter call targets e none (triples.Call before l after) a is = subst (λ (o : Option PlainAct). CallAgrees al o before after) (ap (slice_get al.acts) is ∙ e) a
no_call al letter call targets e none (triples.Back exit before l after) a is =
    none exit before after (subst (λ (o : Option PlainAct). BackAgrees al o exit before after) (ap (slice_get al.acts) is ∙ e) a)

return_from : (al : Alphabet) (preds : List Scoped) (letter call : ℕ) (targets : List ℕ) (o : Option PlainAct) (proc : ℕ) (sources : List Source) → slice_get al.acts letter ≡ Some (back_act call targets) →
    slice_get al.acts call ≡ o → AreReturnSources al preds o proc sources → AreSources al preds letter proc sources
return_from al preds letter call targets None proc sources e d h =
    none_from al preds letter proc sources h (no_call al letter call targets e (λ exit before after k. subst (λ (o : Option PlainAct). ReturnAgrees al o exit before after) d k))
return_from al preds letter call targets (Some (inside_act p written helpers rows)) proc sources e d h =
    none_from al preds letter proc sources h (no_call al letter call targets e (λ exit before after k. subst (λ (o : Option PlainAct). ReturnAgrees al o exit before after) d k))
return_from al preds letter call targets (Some (call_act caller callee helpers rows)) proc sources e d h =
    subst (λ (l : List Source). AreSources al preds letter proc l) (sym h.5) (subst (λ (p : ℕ). AreSources al preds letter p (pairs h.1 h.2)) (sym h.0)
    (back_from al preds letter call targets caller callee helpers rows h.1 h.2 e d h.3 h.4))
return_from al preds letter call targets (Some (back_act c more)) proc sources e d h =
    none_from al preds letter proc sources h (no_call al letter call targets e (λ exit before after k. subst (λ (o : Option PlainAct). ReturnAgrees al o exit before after) d k))

pub act_from : (al : Alphabet) (preds : List Scoped) (letter : ℕ) (o : Option PlainAct) (proc : ℕ) (sources : List Source) → slice_get al.acts letter ≡ o → AreActSources al preds o proc sources →
    AreSources al preds letter proc sources
act_from al preds letter None proc sources e h = none_from al preds letter proc sources h (no_act al letter e)
act_from al preds letter (Some (inside_act p written helpers rows)) proc sources e h =
    subst (λ (l : List Source). AreSources al preds letter proc l) (sym h.3) (subst (λ (q : ℕ). AreSources al preds letter q (map Inside h.1)) (sym h.0)
    (inside_from al preds letter p written helpers rows h.1 e h.2))
act_from al preds letter (Some (call_act caller callee helpers rows)) proc sources e h =
    subst (λ (l : List Source). AreSources al preds letter proc l) (sym h.3) (subst (λ (q : ℕ). AreSources al preds letter q (map Call h.1)) (sym h.0)
    (call_from al preds letter caller callee helpers rows h.1 e h.2))
act_from al preds letter (Some (back_act c targets)) proc sources e h = return_from al preds letter c targets (slice_get al.acts c) proc sources e refl h
