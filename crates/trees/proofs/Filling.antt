-- Filling the places of a tray one by one with the nodes that are due.
-- Assumes nothing.
use Rattle.std.proofs.Common.{◌≡◌, ℕ, ◌+◌, ◌<◌, ◌≤◌, ◌↔◌, List, [], ◌∷◌, ◌++◌, length, drop, Bool, false, set, is_some, Some, None, IsTrue, Option, sym, refl, ap, ◌∙◌, subst, inl, inr, ⊎_elim, append_assoc, zero-le, arith}
use mathlib.Core.Bool.{false≢true}
use Rattle.std.specs.List.{All, Contains}
use Rattle.std.proofs.lemmas.List.{length_push, drop_more, set_at}
use Rattle.std.proofs.lemmas.List.Elements.{All-nil, All-push, All-weaker, All-contains, Contains-append_left, Contains-push}
use Rattle.std.proofs.lemmas.List.Quantifiers.{all_pairs_push}
use Rattle.trees.specs.Listings.{Before, Due, Listing, Left, Written}
use Rattle.trees.specs.Trees.{Shape, Node, Laws}
use Rattle.trees.specs.Walking.{FirstOf}
use Rattle.trees.proofs.Passing.{before_trans}

module _ {N : Type 0} (tree : Shape N) (from : Option N) where
  -- m is due, and comes after all of ns
  abbrev pub Later : List N → N → Type 0
  Later ns m = Due tree from m × All (λ n. Before tree n m) ns

  -- ns are listed, and `next` is the first that is due after them
  pub record ListingSoFar (ns : List N) (next : Option N) : Type 0 where
    pub listing : Listing tree from ns
    pub first : FirstOf tree (Later ns) next

pub listing_begins : {N : Type 0} {tree : Shape N} {from next : Option N} → FirstOf tree (Due tree from) next → ListingSoFar tree from [] next
listing_begins {N} {tree} {from} {next} first = record {
  listing = record { rising = λ i j d _ h. absurd (omega (arith, h)); due = All-nil (Due tree from); none_left_out = λ m d. inr (All-nil (λ n. Before tree n m)) };
  first = go next first;
}
  where
    go : (o : Option N) → FirstOf tree (Due tree from) o → FirstOf tree (Later tree from []) o
    go None none = λ m l. none m l.0
    go (Some x) f = ((f.0, All-nil (λ n. Before tree n x)), λ k l. f.1 k l.0)

module _ {N : Type 0} {tree : Shape N} (laws : Laws tree) {from : Option N} {ns : List N} where
  pub next_is_node : {next : Option N} {n : N} → ListingSoFar tree from ns next → next ≡ Some n → Node tree n
  next_is_node {next} {n} p here = laws.only_nodes n (subst (ListingSoFar tree from ns) here p).first.0.0.0

  pub listing_more : {next later : Option N} {n : N} → ListingSoFar tree from ns next → next ≡ Some n → FirstOf tree (Due tree (Some n)) later → ListingSoFar tree from (ns ++ n ∷ []) later
  listing_more {next} {later} {n} before here first =
      record {
        listing = record {
          rising = all_pairs_push (Before tree) ns n p.listing.rising (λ k d h. p.first.0.1 k d h);
          due = All-push (Due tree from) ns n p.listing.due p.first.0.0;
          none_left_out = λ m d.
              ⊎_elim (λ a. inl (Contains-append_left ns (n ∷ []) m a))
              (λ all. ⊎_elim (λ e. inl (subst (Contains (ns ++ n ∷ [])) (sym e) (Contains-push ns n))) (λ b. inr (All-push (λ k. Before tree k m) ns n all b)) (p.first.1 m (d, all)))
              (p.listing.none_left_out m d);
        };
        first = go later first;
      }
    where
      p : ListingSoFar tree from ns (Some n)
      p = subst (ListingSoFar tree from ns) here before

      due_after : (o : Option N) (m : N) → Due tree o n → tree.wanted m → Before tree n m → Due tree o m
      due_after None m d w b = (w, tt)
      due_after (Some a) m d w b = (w, before_trans laws a n m d.1 b)

      after_last : (m : N) → All (λ k. Before tree k m) (ns ++ n ∷ []) → Before tree n m
      after_last m all = All-contains (λ k. Before tree k m) (ns ++ n ∷ []) n all (Contains-push ns n)

      go : (o : Option N) → FirstOf tree (Due tree (Some n)) o → FirstOf tree (Later tree from (ns ++ n ∷ [])) o
      go None none = λ m l. none m (l.0.0, after_last m l.1)
      go (Some x) f = (
        (
          due_after from x p.first.0.0 f.0.0 f.0.1,
          All-push (λ k. Before tree k x) ns n
              (All-weaker (λ k. Before tree k n) (λ k. Before tree k x) (λ k b. before_trans laws k n x b f.0.1) ns p.first.0.1)
              f.0.1,
        ),
        λ k l. f.1 k (l.0.0, after_last k l.1),
      )

module _ {N : Type 0} {tree : Shape N} {from : Option N} {ns : List N} where
  pub none_left : {next : Option N} → ListingSoFar tree from ns next → next ≡ None → Left tree from ns → ⊥
  none_left p none l = (subst (ListingSoFar tree from ns) none p).first l.0 (l.1, l.2)

  -- whether any are left is whether there is a next one
  pub left_told : (next : Option N) → ListingSoFar tree from ns next → IsTrue (is_some next) ↔ Left tree from ns
  left_told None p = (λ t. absurd (false≢true t), λ l. absurd (none_left p refl l))
  left_told (Some n) p = (λ t. (n, p.first.0.0, p.first.0.1), λ l. refl)

-- the first i places hold what is listed so far, and the other places are as they were
pub record Filled {N : Type 0} {tree : Shape N} (laws : Laws tree) (from : Option N) (before : List N) (i : ℕ) (after : List N) (next : Option N) : Type 0 where
  pub entries : List N
  pub so_far : ListingSoFar tree from entries next
  pub count : length entries ≡ i
  pub fits : i ≤ length before
  pub places : after ≡ entries ++ drop i before

module _ {N : Type 0} {tree : Shape N} (laws : Laws tree) {from : Option N} {before : List N} where
  pub filling : {next : Option N} → FirstOf tree (Due tree from) next → Filled laws from before 0 before next
  filling first = record { entries = []; so_far = listing_begins first; count = refl; fits = zero-le; places = refl }

module _ {N : Type 0} {tree : Shape N} {laws : Laws tree} {from : Option N} {before : List N} {i : ℕ} {after : List N} {next : Option N} (p : Filled laws from before i after next) where
  pub filled_more : {n : N} {later : Option N} → next ≡ Some n → i < length before → FirstOf tree (Due tree (Some n)) later → Filled laws from before (i + 1) (set after i n) later
  filled_more {n} here room first = record {
    entries = p.entries ++ n ∷ [];
    so_far = listing_more laws p.so_far here first;
    count = length_push p.entries n ∙ ap (λ (k : ℕ). k + 1) p.count;
    fits = omega (arith, room);
    places =
        ap (λ (l : List N). set l i n) (p.places ∙ ap (λ (l : List N). p.entries ++ l) (drop_more before i n room))
        ∙ set_at p.entries _ (drop (i + 1) before) n i p.count ∙ sym (append_assoc p.entries (n ∷ []) (drop (i + 1) before));
  }

  written : {more : Bool} → more ≡ is_some next → (Left tree from p.entries → length p.entries ≡ length before) → Written tree from before (record { written = i; more = more }) after
  written told until = record {
    entries = p.entries;
    first = p.so_far.listing;
    count = sym p.count;
    fits = omega (arith, p.count, p.fits);
    places = p.places ∙ ap (λ (k : ℕ). p.entries ++ drop k before) (sym p.count);
    until = until;
    more = subst (λ (x : Bool). IsTrue x ↔ Left tree from p.entries) (sym told) (left_told next p.so_far);
  }

  pub written_all : next ≡ None → Written tree from before (record { written = i; more = false }) after
  written_all none = written (ap is_some (sym none)) (λ l. absurd (none_left p.so_far none l))
