-- Handing a tray over to a sink.
-- Assumes nothing.
use Rattle.std.proofs.Common.{◌≡◌, ℕ, ◌-◌, ◌<◌, ◌≤◌, true, false, List, [], ◌∷◌, ◌++◌, length, take, drop, get_or, slice_get, Some, None, Ok, Err, OnOk, MatchOption, Option, Result, is_ok, sym, ap, ◌∙◌, subst, arith, suc}
use mathlib.Core.Bool.{false≢true}
use Rattle.std.proofs.Math.Seq.{take-append_seam, take-length, take-suc}
use Rattle.std.proofs.lemmas.Option.{slice_get-get_or, get_or_from_slice_get}
use Rattle.trees.specs.declared.listed.Listed.{Listed}
use Rattle.trees.specs.Listings.{Listing, Left, Written}
use Rattle.trees.specs.Trees.{Shape}

-- what an `Ok` promises
pub on_ok : {T E P : Type 0} (r : Result T E) → true ≡ is_ok r → OnOk r P → P
on_ok (Ok x) is p = p
on_ok (Err e) is p = absurd (false≢true (sym is))

-- the last of some entries ends them
last_ends : {N : Type 0} (xs : List N) (last : Option N) → last ≡ slice_get xs (length xs - 1) → 0 < length xs → MatchOption last ⊥ (λ n. (ms : List N) × (xs ≡ ms ++ n ∷ []))
last_ends {N} xs None e some =
    elim xs as (λ (l : List N). 0 < length l → None ≡ slice_get l (length l - 1) → ⊥) [
      | [] ↦ λ h k. omega (arith, h)
      | x ∷ ys ↦ λ h k. let there = slice_get-get_or (x ∷ ys) (length (x ∷ ys) - 1) x (omega arith) in cc
    ] some e
last_ends {N} xs (Some n) e some =
    let there : get_or xs (length xs - 1) n ≡ n = get_or_from_slice_get xs (length xs - 1) n n (sym e) in
    let all : suc (length xs - 1) ≡ length xs = omega (arith, some) in
    let split = take-suc xs (length xs - 1) n (omega (arith, some)) in (
      take (length xs - 1) xs,
      sym (take-length xs) ∙ ap (λ (k : ℕ). take k xs) (sym all) ∙ split ∙ ap (λ (x : N). take (length xs - 1) xs ++ x ∷ []) there,
    )

module _ {N : Type 0} {tree : Shape N} {from : Option N} {before : List N} {told : Listed} {after : List N} (w : Written tree from before told after) {places : List N} (shown : places ≡ after) where
  entries_are : w.entries ≡ take told.written places
  entries_are =
      sym (take-append_seam w.entries (drop (length w.entries) before))
      ∙ ap (λ (k : ℕ). take k (w.entries ++ drop (length w.entries) before)) (sym w.count)
      ∙ ap (take told.written) (sym (shown ∙ w.places))

  pub told_listed : Listing tree from (take told.written places)
  told_listed = subst (Listing tree from) entries_are w.first

  pub none_more : told.more ≡ false → Left tree from (take told.written places) → ⊥
  none_more none l = false≢true (sym none ∙ w.more.1 (subst (Left tree from) (sym entries_are) l))

  -- where more are left, the last entry is the one to go on after
  pub last_told : {last : Option N} → told.more ≡ true → 1 ≤ length before → last ≡ slice_get (take told.written places) (length (take told.written places) - 1)
      → MatchOption last (Left tree from (take told.written places) → ⊥) (λ n. (ms : List N) × (take told.written places ≡ ms ++ n ∷ []))
  last_told {last} more some e =
      let full = w.until (w.more.0 more) in
      let long : 0 < length (take told.written places) = subst (λ (l : List N). 0 < length l) entries_are (omega (arith, full, some)) in
      go last (last_ends (take told.written places) last e long)
    where
      go : (o : Option N) → MatchOption o ⊥ (λ n. (ms : List N) × (take told.written places ≡ ms ++ n ∷ []))
          → MatchOption o (Left tree from (take told.written places) → ⊥) (λ n. (ms : List N) × (take told.written places ≡ ms ++ n ∷ []))
      go None h = absurd h
      go (Some n) h = h
