-- Definitions in turn: the loops that read them and put them.
use Rattle.text.specs.Prelude.{ℕ, suc, ◌+◌, ◌-◌, ◌*◌, ◌≤◌, ◌<◌, min, ◌≡◌, Bool, true, false, List, [], ◌∷◌, ◌++◌, map}
use Rattle.text.specs.Prelude.{length, take, drop, get_or, set, replicate, Res, ok, no, bind, moved, cut}
use Rattle.text.specs.Prelude.{columns}
use Rattle.text.proofs.Prelude.{arith, refl, sym, ap, ◌∙◌, append-nil, append_assoc, length-append, take_all, drop-drop}
use Rattle.text.proofs.Prelude.{off, moved_twice}
use native.Mathlib.Nat.{add-zero, add-sub_cancel_left}
use native.Mathlib.Numerals.{add-one}
use lib.Dec.{leb}
use lib.ListN.{length-map}
use lib.Seq.{set_at, take-suc}
use borrow.Author.Tests.{leb-true, leb-false}
use Rattle.text.specs.declared.refusal.Refusal.{Refusal}
use Rattle.text.proofs.Lines.{cut_rest}
use Rattle.put.specs.Put.{Wrote}
use Rattle.put.proofs.Writing.{then}
use Rattle.extension.specs.Extension.{read_extension, extension_text}
use Rattle.table.specs.Table.{empty, table_of, read_defs, defs_text, table_read}
use Rattle.extension.specs.declared.Extension.{Extension}
use Rattle.table.specs.declared.Table.{Table}

-- ---- reading

-- definitions after those of p
unfoldable pub defs_behind : List Extension → Res (List Extension) → Res (List Extension)
defs_behind p m = bind m (λ es. ok (p ++ es))

behind_none : (m : Res (List Extension)) → defs_behind [] m ≡ m
unfolding defs_behind bind
behind_none (ok es) = refl
behind_none (no n) = refl

behind_one : (p : List Extension) (e : Extension) (m : Res (List Extension)) →
    defs_behind p (bind m (λ es. ok (e ∷ es))) ≡ defs_behind (p ++ (e ∷ [])) m
unfolding defs_behind bind
behind_one p e (ok es) = ap ok (sym (append_assoc p (e ∷ []) es))
behind_one p e (no n) = refl

-- two in a row from a place on: the first of seven characters, and what comes behind it
in_row : (a : ℕ) (x : Res Extension) (y : Res (List Extension)) →
    moved a (bind (moved 0 x) (λ e. bind (moved 7 y) (λ es. ok (e ∷ es))))
    ≡ bind (moved a x) (λ e. bind (moved (a + 7) y) (λ es. ok (e ∷ es)))
unfolding moved bind
in_row a (ok e) (ok es) = refl
in_row a (ok e) (no n) = moved_twice {A = List Extension} a 7 (no n)
in_row a (no n) y = moved_twice {A = List Extension} a 0 (no n)
    ∙ ap (λ (k : ℕ). moved {A = List Extension} k (no n)) (add-zero a)

-- the first of k + 1 definitions from a place on, and the others
read_defs_suc : (a k : ℕ) (s : List ℕ) →
    moved a (read_defs (suc k) s)
    ≡ bind (moved a (read_extension (take 7 s))) (λ e.
    bind (moved (a + 7) (read_defs k (drop 7 s))) (λ es. ok (e ∷ es)))
unfolding read_defs columns cut
read_defs_suc a k s = rw (cut_rest s 7) (in_row a (read_extension (take 7 s)) (read_defs k (drop 7 s)))

-- i definitions of the line were read, those of p
pub record Turn (s : List ℕ) (n i : ℕ) (defs : List Extension) : Type 0 where
  pub p : List Extension
  pub count : length p ≡ i
  pub inside : i ≤ n
  pub held : defs ≡ p ++ replicate (99 - i) empty
  pub left : defs_behind p (moved (3 + i * 7) (read_defs (n - i) (drop (3 + i * 7) s)))
      ≡ columns 3 (length s) (read_defs n) s

pub turn_start : (s : List ℕ) (n : ℕ) → Turn s n 0 (replicate 99 empty)
unfolding columns cut
turn_start s n =
    record {
      p = [];
      count = refl;
      inside = omega arith;
      held = refl;
      left = behind_none _ ∙ rw (cut_rest s 3) (ap (λ (k : ℕ). moved 3 (read_defs k (drop 3 s))) (omega arith));
    }

module _ (s : List ℕ) (n i : ℕ) (defs : List Extension) (t : Turn s n i defs) (more : i < n) where
  abbrev at : ℕ
  at = 3 + i * 7

  rest : defs_behind t.p
      (bind (moved at (read_extension (take 7 (drop at s)))) (λ e.
      bind (moved (at + 7) (read_defs (n - (i + 1)) (drop (at + 7) s))) (λ es. ok (e ∷ es))))
      ≡ columns 3 (length s) (read_defs n) s
  rest =
      let k : n - i ≡ suc (n - (i + 1)) = omega arith in
      rw (← drop-drop 7 at s) (ap (defs_behind t.p) (sym (read_defs_suc at (n - (i + 1)) (drop at s)))
      ∙ (rw k at t.left))

  part : take (at + 7 - at) (drop at s) ≡ take 7 (drop at s)
  part = ap (λ (k : ℕ). take k (drop at s)) (add-sub_cancel_left at 7)

  pub turn_refuses : {b : Refusal} → no b ≡ moved at (read_extension (take (at + 7 - at) (drop at s))) →
      no b ≡ columns 3 (length s) (read_defs n) s
  unfolding defs_behind
  turn_refuses h = off _ (off _ (h ∙ ap (λ d. moved at (read_extension d)) part)) ∙ rest

  pub turn_next : n ≤ 99 → {e : Extension} → ok e ≡ moved at (read_extension (take (at + 7 - at) (drop at s))) →
      Turn s n (i + 1) (set defs i e)
  unfolding bind
  turn_next fits {e} h =
      let k : 99 - i ≡ suc (99 - (i + 1)) = omega arith in
      let d : 3 + (i + 1) * 7 ≡ at + 7 = omega arith in
      let others : Res (List Extension) = moved (at + 7) (read_defs (n - (i + 1)) (drop (at + 7) s)) in
      record {
        p = t.p ++ (e ∷ []);
        count = length-append t.p (e ∷ []) ∙ omega (arith, t.count);
        inside = omega arith;
        held =
            ap (λ l. set l i e) (t.held ∙ ap (λ (m : ℕ). t.p ++ replicate m empty) k)
            ∙ set_at t.p empty (replicate (99 - (i + 1)) empty) e i t.count
            ∙ sym (append_assoc t.p (e ∷ []) (replicate (99 - (i + 1)) empty));
        left = rw d (sym (behind_one t.p e others)
            ∙ ap (λ m. defs_behind t.p (bind m (λ e. bind others (λ es. ok (e ∷ es)))))
            (h ∙ ap (λ d. moved at (read_extension d)) part) ∙ rest);
      }

held_as : ℕ → List Extension → Res Table
held_as n defs = ok (record { defs = defs; count = n })

pub turn_done : (s : List ℕ) (n i : ℕ) (defs : List Extension) → Turn s n i defs → n ≤ i →
    ok (record { defs = defs; count = n }) ≡ table_read (columns 3 (length s) (read_defs n) s)
unfolding table_read table_of read_defs defs_behind bind moved held_as
turn_done s n i defs t end =
    let z : n - i ≡ 0 = omega (arith, t.inside) in
    let m : n ≡ length t.p = omega (arith, t.inside, t.count) in
    let r : 99 - i ≡ 99 - length t.p = omega (arith, t.count) in
    ap (λ (k : ℕ). held_as k defs) m
    ∙ ap (held_as (length t.p)) (t.held ∙ ap (λ (k : ℕ). t.p ++ replicate k empty) r)
    ∙ ap table_read (rw (z, append-nil) at t.left)

-- ---- printing

defs_append : (a b : List Extension) → defs_text (a ++ b) ≡ defs_text a ++ defs_text b
unfolding defs_text
defs_append [] b = refl
defs_append (d ∷ a) b = rw (defs_append a b, append_assoc)

-- the first i definitions, and then the next
pub defs_then : {b b' b'' : List ℕ} {at j k : ℕ} (l : List Extension) (i : ℕ) (d : Extension) → i < length l
    → Wrote b at (defs_text (take i l)) b' j → Wrote b' j (extension_text (get_or l i d)) b'' k
    → Wrote b at (defs_text (take (i + 1) l)) b'' k
unfolding defs_text
defs_then l i d h p q = rw (add-one, take-suc l i d h, defs_append, append-nil) (then p q)

-- those that count are no more than there are
pub defs_counted : (l : List Extension) (i n : ℕ) → i ≡ min n (length l) → take i l ≡ take n l
defs_counted l i n k = by (leb n i) refl
  where
    by : (x : Bool) → leb n i ≡ x → take i l ≡ take n l
    by true e = let h = leb-true n i e in let z : i ≡ n = omega arith in rw z
    by false e = let h = leb-false n i e in rw (take_all i l (omega arith), take_all n l (omega arith))

-- the length of an array of structs, for search
pub long_under : (X Y : Type 0) (f : X → Y) (l : List X) (n : ℕ) → length (map f l) ≡ n → length l ≡ n
long_under X Y f l n p = sym (length-map l f) ∙ p
