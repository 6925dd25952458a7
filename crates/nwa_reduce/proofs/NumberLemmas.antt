-- Marks and their numbers.
use Rattle.std.proofs.Common.{◌≡◌, ◌∙◌, ◌↔◌, ◌<◌, ◌≤◌, ◌+◌, ℕ, Bool, true, false, cond, List, [], ◌∷◌, ◌++◌, Some, length, take, get_or, slice_get, refl, sym, ap, subst, inl, inr, append_assoc, append-nil}
use Rattle.std.proofs.lemmas.List.{take_more, take_all}
use Rattle.nwa_base.specs.Members.{Member, SameMembers}
use Rattle.nwa_base.specs.Automata.{Automaton}
use Rattle.nwa_base.proofs.MemberLemmas.{member_front, member_rest, member_split}
use Rattle.nwa_reduce.specs.declared.marking.Mark.{Mark}
use Rattle.nwa_reduce.specs.Ties.Marks.{IsNumbered, HasMark, Ascends}
use Rattle.nwa_reduce.specs.Ties.Signatures.{Signs}
use Rattle.nwa_reduce.proofs.ListLemmas.{get_front, only_member, distinct_insert}

pub numbered_none : (old : List Mark) (numbers : List ℕ) → numbers ≡ [] → IsNumbered old old [] numbers
numbered_none old numbers e = record {
  more = [];
  table = sym (append-nil old);
  distinct = λ d. d;
  sound = λ i h. absurd (subst (λ (l : List ℕ). Member l i) e h);
  complete = λ x h. absurd h;
}

-- the table after one insertion
grown_table : (b : Bool) (old mid new : List Mark) (x : Mark) → new ≡ cond b mid (mid ++ x ∷ []) → (more : List Mark) × (new ≡ mid ++ more)
grown_table true old mid new x e = ([], e ∙ sym (append-nil mid))
grown_table false old mid new x e = (x ∷ [], e)

stays : (mid more new : List Mark) (i : ℕ) (x : Mark) → new ≡ mid ++ more → slice_get mid i ≡ Some x → slice_get new i ≡ Some x
stays mid more new i x e h = subst (λ (l : List Mark). slice_get l i ≡ Some x) (sym e) (get_front mid more i x h)

numbered_on : (b : Bool) (old mid new marks : List Mark) (numbers numbers' : List ℕ) (x : Mark) (n : ℕ) → IsNumbered old mid marks numbers →
    (b ≡ false → Member mid x → ⊥) → new ≡ cond b mid (mid ++ x ∷ []) → slice_get new n ≡ Some x → numbers' ≡ numbers ++ n ∷ [] →
    IsNumbered old new (marks ++ x ∷ []) numbers'
numbered_on b old mid new marks numbers numbers' x n h a e g p =
    let t = grown_table b old mid new x e in
    record {
      more = h.more ++ t.0;
      table = t.1 ∙ ap (λ (l : List Mark). l ++ t.0) h.table ∙ append_assoc old h.more t.0;
      distinct = λ d. distinct_insert b mid new x a (h.distinct d) e;
      sound = λ i m.
          elim (member_split numbers (n ∷ []) i (subst (λ (l : List ℕ). Member l i) p m)) [
            | inl o ↦ let r = h.sound i o in (r.0, member_front marks (x ∷ []) r.0 r.1, stays mid t.0 new i r.0 t.1 r.2)
            | inr o ↦ (x, member_rest marks (x ∷ []) x (inl refl), subst (λ (z : ℕ). slice_get new z ≡ Some x) (only_member n i o) g)
          ];
      complete = λ y m.
          elim (member_split marks (x ∷ []) y m) [
            | inl o ↦
                let r = h.complete y o in
                (r.0, subst (λ (l : List ℕ). Member l r.0) (sym p) (member_front numbers (n ∷ []) r.0 r.1), stays mid t.0 new r.0 y t.1 r.2)
            | inr o ↦ (
              n,
              subst (λ (l : List ℕ). Member l n) (sym p) (member_rest numbers (n ∷ []) n (inl refl)),
              subst (λ (z : Mark). slice_get new n ≡ Some z) (only_member x y o) g,
            )
          ];
    }

pub numbered_more : (b : Bool) (old mid new xs : List Mark) (i : ℕ) (d : Mark) (numbers numbers' : List ℕ) (n : ℕ) → i < length xs → IsNumbered old mid (take i xs) numbers →
    (b ≡ false → Member mid (get_or xs i d) → ⊥) → new ≡ cond b mid (mid ++ get_or xs i d ∷ []) → slice_get new n ≡ Some (get_or xs i d) →
    numbers' ≡ numbers ++ n ∷ [] → IsNumbered old new (take (i + 1) xs) numbers'
numbered_more b old mid new xs i d numbers numbers' n l h a e g p =
    subst (λ (f : List Mark). IsNumbered old new f numbers') (sym (take_more xs i d l)) (numbered_on b old mid new (take i xs) numbers numbers' (get_or xs i d) n h a e g p)

pub numbered_all : (old new xs : List Mark) (i : ℕ) (numbers : List ℕ) → length xs ≤ i → IsNumbered old new (take i xs) numbers → IsNumbered old new xs numbers
numbered_all old new xs i numbers l h = subst (λ (f : List Mark). IsNumbered old new f numbers) (take_all i xs l) h

-- the numbers of a state's marks, in order
pub signs : (m : Automaton) (lead : ℕ → ℕ) (q : ℕ) (old new marks slice : List Mark) (numbers ordered : List ℕ) → slice ≡ marks →
    ((x : Mark) → Member marks x ↔ HasMark m lead q x) → IsNumbered old new slice numbers → SameMembers numbers ordered → Ascends ordered →
    Signs m lead q old new ordered
signs m lead q old new marks slice numbers ordered e h k s a =
    let n = subst (λ (l : List Mark). IsNumbered old new l numbers) e k in
    record {
      more = n.more;
      table = n.table;
      distinct = n.distinct;
      signature = record {
        ascends = a;
        sound = λ i g. let r = n.sound i (s.back i g) in (r.0, (h r.0).0 r.1, r.2);
        complete = λ x g. let r = n.complete x ((h x).1 g) in (r.0, s.there r.0 r.1, r.2);
      };
    }
