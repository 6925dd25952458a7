-- What tells states apart.
use Rattle.std.proofs.Common.{◌≡◌, ◌∙◌, ◌⊎◌, ◌↔◌, ◌<◌, ◌+◌, ℕ, List, [], ◌∷◌, ◌++◌, length, drop, get_or, map, refl, sym, ap, subst, inl, inr, eqb, append_assoc}
use Rattle.std.proofs.lemmas.Bool.{eqb-true}
use Rattle.std.proofs.lemmas.List.{drop_more}
use Rattle.nwa_base.specs.declared.letters.Letter.{Letter}
use Rattle.nwa_base.specs.Members.{Member}
use Rattle.nwa_base.specs.Edges.{leaving, backs_leaving}
use Rattle.nwa_base.specs.Automata.{Automaton}
use Rattle.nwa_base.proofs.LetterLemmas.{eqb-refl}
use Rattle.nwa_base.proofs.MemberLemmas.{member_front, member_rest, member_split, member_map, member_from_map, member_filter, filter_member}
use Rattle.nwa_reduce.specs.declared.marking.Mark.{Mark}
use Rattle.nwa_reduce.specs.declared.marking.Mark.TheVariants as marks
use Rattle.nwa_reduce.specs.Ties.Marks.{HasMark, backs_before, inside_marks, call_marks, back_marks, before_marks}
use Rattle.nwa_reduce.proofs.ListLemmas.{only_member}

-- marks that are added one by one: those of the next member are made
pub mapped_on : {X Y : Type 0} (f : X → Y) (xs : List X) (i : ℕ) (d : X) (begin old new : List Y) (y : Y) → i < length xs →
    old ++ map f (drop i xs) ≡ begin ++ map f xs → new ≡ old ++ y ∷ [] → y ≡ f (get_or xs i d) → new ++ map f (drop (i + 1) xs) ≡ begin ++ map f xs
mapped_on f xs i d begin old new y l h e k =
    (λ j. e j ++ map f (drop (i + 1) xs)) ∙ append_assoc old (y ∷ []) (map f (drop (i + 1) xs)) ∙ (λ j. old ++ k j ∷ map f (drop (i + 1) xs)) ∙
    ap (λ (zs : List _). old ++ map f zs) (sym (drop_more xs i d l)) ∙ h

-- the marks after being final
abbrev pub FinalAdded : Automaton → ℕ → List Mark → List Mark → Type 0
FinalAdded m q old new = (x : Mark) → Member new x ↔ (Member old x ⊎ ((x ≡ marks.Final) × Member m.finals q))

pub final_pushed : (m : Automaton) (q : ℕ) (old new : List Mark) → new ≡ old ++ marks.Final ∷ [] → Member m.finals q → FinalAdded m q old new
final_pushed m q old new e h x = (
  λ k.
      elim (member_split old (marks.Final ∷ []) x (subst (λ (l : List Mark). Member l x) e k)) [
        | inl a ↦ inl a
        | inr b ↦ inr (sym (only_member marks.Final x b), h)
      ],
  λ k.
      subst (λ (l : List Mark). Member l x) (sym e)
      (elim k [ inl a ↦ member_front old (marks.Final ∷ []) x a | inr b ↦ member_rest old (marks.Final ∷ []) x (inl (sym b.0)) ]),
)

-- the edges that are found under a state
leaves : (q : ℕ) (edges : List (ℕ × Letter × ℕ)) (e : ℕ × Letter × ℕ) → Member (leaving q edges) e → Member edges (q, e.1, e.2)
leaves q edges e h =
    let r = filter_member (λ (x : ℕ × Letter × ℕ). eqb x.0 q) edges e h in
    let i : e.0 ≡ q = eqb-true _ _ r.1 in
    subst (Member edges) (λ n. (i n, e.1, e.2)) r.0

does_leave : (q : ℕ) (edges : List (ℕ × Letter × ℕ)) (a : Letter) (e : ℕ) → Member edges (q, a, e) → Member (leaving q edges) (q, a, e)
does_leave q edges a e h = member_filter (λ (x : ℕ × Letter × ℕ). eqb x.0 q) edges (q, a, e) h (eqb-refl q)

back_leaves : (q : ℕ) (edges : List (ℕ × ℕ × Letter × ℕ)) (e : ℕ × ℕ × Letter × ℕ) → Member (backs_leaving q edges) e → Member edges (q, e.1, e.2, e.3)
back_leaves q edges e h =
    let r = filter_member (λ (x : ℕ × ℕ × Letter × ℕ). eqb x.0 q) edges e h in
    let i : e.0 ≡ q = eqb-true _ _ r.1 in
    subst (Member edges) (λ n. (i n, e.1, e.2, e.3)) r.0

back_does_leave : (q : ℕ) (edges : List (ℕ × ℕ × Letter × ℕ)) (s : ℕ) (a : Letter) (e : ℕ) → Member edges (q, s, a, e) → Member (backs_leaving q edges) (q, s, a, e)
back_does_leave q edges s a e h = member_filter (λ (x : ℕ × ℕ × Letter × ℕ). eqb x.0 q) edges (q, s, a, e) h (eqb-refl q)

named_before : (q : ℕ) (edges : List (ℕ × ℕ × Letter × ℕ)) (e : ℕ × ℕ × Letter × ℕ) → Member (backs_before q edges) e → Member edges (e.0, q, e.2, e.3)
named_before q edges e h =
    let r = filter_member (λ (x : ℕ × ℕ × Letter × ℕ). eqb x.1 q) edges e h in
    let i : e.1 ≡ q = eqb-true _ _ r.1 in
    subst (Member edges) (λ n. (e.0, i n, e.2, e.3)) r.0

does_name : (q : ℕ) (edges : List (ℕ × ℕ × Letter × ℕ)) (s : ℕ) (a : Letter) (e : ℕ) → Member edges (s, q, a, e) → Member (backs_before q edges) (s, q, a, e)
does_name q edges s a e h = member_filter (λ (x : ℕ × ℕ × Letter × ℕ). eqb x.1 q) edges (s, q, a, e) h (eqb-refl q)

-- the marks of one kind are marks of the state
inside_mark : (m : Automaton) (lead : ℕ → ℕ) (q : ℕ) (x : Mark) → Member (inside_marks lead (leaving q m.insides)) x → HasMark m lead q x
inside_mark m lead q x h =
    let r = member_from_map (λ (e : ℕ × Letter × ℕ). marks.Inside e.1 (lead e.2)) (leaving q m.insides) x h in
    subst (HasMark m lead q) r.2 (r.0.2, leaves q m.insides r.0 r.1, refl)

call_mark : (m : Automaton) (lead : ℕ → ℕ) (q : ℕ) (x : Mark) → Member (call_marks lead (leaving q m.calls)) x → HasMark m lead q x
call_mark m lead q x h =
    let r = member_from_map (λ (e : ℕ × Letter × ℕ). marks.Call e.1 (lead e.2)) (leaving q m.calls) x h in
    subst (HasMark m lead q) r.2 (r.0.2, leaves q m.calls r.0 r.1, refl)

back_mark : (m : Automaton) (lead : ℕ → ℕ) (q : ℕ) (x : Mark) → Member (back_marks lead (backs_leaving q m.backs)) x → HasMark m lead q x
back_mark m lead q x h =
    let r = member_from_map (λ (e : ℕ × ℕ × Letter × ℕ). marks.Back e.1 e.2 (lead e.3)) (backs_leaving q m.backs) x h in
    subst (HasMark m lead q) r.2 (r.0.3, back_leaves q m.backs r.0 r.1, refl)

before_mark : (m : Automaton) (lead : ℕ → ℕ) (q : ℕ) (x : Mark) → Member (before_marks lead (backs_before q m.backs)) x → HasMark m lead q x
before_mark m lead q x h =
    let r = member_from_map (λ (e : ℕ × ℕ × Letter × ℕ). marks.Before e.0 e.2 (lead e.3)) (backs_before q m.backs) x h in
    subst (HasMark m lead q) r.2 (r.0.3, named_before q m.backs r.0 r.1, refl)

-- the marks of all kinds, one after another
abbrev all_marks : Automaton → (ℕ → ℕ) → ℕ → List Mark → List Mark
all_marks m lead q final =
    (((final ++ inside_marks lead (leaving q m.insides)) ++ call_marks lead (leaving q m.calls)) ++ back_marks lead (backs_leaving q m.backs)) ++
    before_marks lead (backs_before q m.backs)

has_all : (m : Automaton) (lead : ℕ → ℕ) (q : ℕ) (final : List Mark) → FinalAdded m q [] final → (x : Mark) → Member (all_marks m lead q final) x → HasMark m lead q x
has_all m lead q final f x h =
    elim (member_split _ (before_marks lead (backs_before q m.backs)) x h) [
      | inr b ↦ before_mark m lead q x b
      | inl g ↦
          elim (member_split _ (back_marks lead (backs_leaving q m.backs)) x g) [
            | inr b ↦ back_mark m lead q x b
            | inl k ↦
                elim (member_split _ (call_marks lead (leaving q m.calls)) x k) [
                  | inr b ↦ call_mark m lead q x b
                  | inl l ↦
                      elim (member_split final (inside_marks lead (leaving q m.insides)) x l) [
                        | inr b ↦ inside_mark m lead q x b
                        | inl o ↦ elim ((f x).0 o) [ inl z ↦ absurd z | inr z ↦ subst (HasMark m lead q) (sym z.0) z.1 ]
                      ]
                ]
          ]
    ]

in_all : (m : Automaton) (lead : ℕ → ℕ) (q : ℕ) (final : List Mark) → FinalAdded m q [] final → (x : Mark) → HasMark m lead q x → Member (all_marks m lead q final) x
in_all m lead q final f marks.Final h = member_front _ _ _ (member_front _ _ _ (member_front _ _ _ (member_front _ _ _ ((f marks.Final).1 (inr (refl, h))))))
in_all m lead q final f (marks.Inside a r) h =
    member_front _ _ _ (member_front _ _ _ (member_front _ _ _ (member_rest final _ _
    (subst (λ (z : ℕ). Member (inside_marks lead (leaving q m.insides)) (marks.Inside a z)) h.2
    (member_map (λ (e : ℕ × Letter × ℕ). marks.Inside e.1 (lead e.2)) (leaving q m.insides) (q, a, h.0) (does_leave q m.insides a h.0 h.1))))))
in_all m lead q final f (marks.Call a r) h =
    member_front _ _ _ (member_front _ _ _ (member_rest (final ++ inside_marks lead (leaving q m.insides)) _ _
    (subst (λ (z : ℕ). Member (call_marks lead (leaving q m.calls)) (marks.Call a z)) h.2
    (member_map (λ (e : ℕ × Letter × ℕ). marks.Call e.1 (lead e.2)) (leaving q m.calls) (q, a, h.0) (does_leave q m.calls a h.0 h.1)))))
in_all m lead q final f (marks.Back s a r) h =
    member_front _ _ _ (member_rest ((final ++ inside_marks lead (leaving q m.insides)) ++ call_marks lead (leaving q m.calls)) _ _
    (subst (λ (z : ℕ). Member (back_marks lead (backs_leaving q m.backs)) (marks.Back s a z)) h.2
    (member_map (λ (e : ℕ × ℕ × Letter × ℕ). marks.Back e.1 e.2 (lead e.3)) (backs_leaving q m.backs) (q, s, a, h.0) (back_does_leave q m.backs s a h.0 h.1))))
in_all m lead q final f (marks.Before s a r) h =
    member_rest (((final ++ inside_marks lead (leaving q m.insides)) ++ call_marks lead (leaving q m.calls)) ++ back_marks lead (backs_leaving q m.backs)) _ _
    (subst (λ (z : ℕ). Member (before_marks lead (backs_before q m.backs)) (marks.Before s a z)) h.2
    (member_map (λ (e : ℕ × ℕ × Letter × ℕ). marks.Before e.0 e.2 (lead e.3)) (backs_before q m.backs) (s, q, a, h.0) (does_name q m.backs s a h.0 h.1)))

-- the marks that were added are those of the state
pub marks_are : (m : Automaton) (lead : ℕ → ℕ) (q : ℕ) (none final i c b all : List Mark) (insides calls : List (ℕ × Letter × ℕ))
    (backs befores : List (ℕ × ℕ × Letter × ℕ)) → none ≡ [] → FinalAdded m q none final → i ≡ final ++ inside_marks lead insides → insides ≡ leaving q m.insides →
    c ≡ i ++ call_marks lead calls → calls ≡ leaving q m.calls → b ≡ c ++ back_marks lead backs → backs ≡ backs_leaving q m.backs →
    all ≡ b ++ before_marks lead befores → befores ≡ backs_before q m.backs → (x : Mark) → Member all x ↔ HasMark m lead q x
marks_are m lead q none final i c b all insides calls backs befores n f ei ej ec ed eb ek ea el x =
    let g = subst (λ (l : List Mark). FinalAdded m q l final) n f in
    let e : all ≡ all_marks m lead q final =
    ea ∙ ap (λ (l : List (ℕ × ℕ × Letter × ℕ)). b ++ before_marks lead l) el ∙ ap (λ (l : List Mark). l ++ before_marks lead (backs_before q m.backs)) (eb ∙
    ap (λ (l : List (ℕ × ℕ × Letter × ℕ)). c ++ back_marks lead l) ek ∙ ap (λ (l : List Mark). l ++ back_marks lead (backs_leaving q m.backs)) (ec ∙
    ap (λ (l : List (ℕ × Letter × ℕ)). i ++ call_marks lead l) ed ∙ ap (λ (l : List Mark). l ++ call_marks lead (leaving q m.calls)) (ei ∙
    ap (λ (l : List (ℕ × Letter × ℕ)). final ++ inside_marks lead l) ej))) in (
      λ h. has_all m lead q final g x (subst (λ (l : List Mark). Member l x) e h),
      λ h. subst (λ (l : List Mark). Member l x) (sym e) (in_all m lead q final g x h),
    )
