-- Going on with a listing until nothing is left.
-- Assumes nothing.
use Rattle.std.proofs.Common.{◌≡◌, ℕ, suc, ◌+◌, ◌-◌, ◌^◌, ◌<◌, min, List, [], ◌∷◌, ◌++◌, length, Some, None, Option, sym, refl, subst, ⊎_elim, suc-le-suc, zero-lt-suc, arith}
use Rattle.std.proofs.lemmas.List.{length_push}
use Rattle.std.proofs.lemmas.List.Elements.{All-contains}
use Rattle.trees.specs.Listings.{Due, Listing, Left, FullListing, Counted}
use Rattle.trees.specs.Trees.{Shape, Laws}
use Rattle.trees.specs.Walking.{FirstOf}
use Rattle.trees.proofs.Filling.{ListingSoFar, listing_begins, listing_more, none_left}
use Rattle.trees.proofs.Passing.{remaining, remaining_falls}

-- how much is left from the next node on
pub ahead : {N : Type 0} {tree : Shape N} → Laws tree → Option N → ℕ
ahead laws None = 0
ahead laws (Some n) = suc (remaining laws n)

-- as many are listed as are counted, and `next` is the first that is left
pub record CountedSoFar {N : Type 0} {tree : Shape N} (laws : Laws tree) (count : ℕ) (next : Option N) : Type 0 where
  pub entries : List N
  pub so_far : ListingSoFar tree None entries next
  pub counted : count ≡ min (length entries) (2 ^ 64 - 1)

-- a listing from the start after which nothing is left
pub whole_listing : {N : Type 0} {tree : Shape N} (ns : List N) → Listing tree None ns → (Left tree None ns → ⊥) → FullListing tree ns
whole_listing {N} {tree} ns l none = record {
  rising = l.rising;
  exactly = λ n. (
    λ h. (All-contains (Due tree None) ns n l.due h).0,
    λ w. ⊎_elim (λ a. a) (λ all. absurd (none (n, (w, tt), all))) (l.none_left_out n (w, tt)),
  );
}

pub counting : {N : Type 0} {tree : Shape N} (laws : Laws tree) {next : Option N} → FirstOf tree (Due tree None) next → CountedSoFar laws 0 next
counting laws first = record { entries = []; so_far = listing_begins first; counted = refl }

module _ {N : Type 0} {tree : Shape N} {laws : Laws tree} {count : ℕ} {next : Option N} (p : CountedSoFar laws count next) where
  pub counted_more : {n : N} {later : Option N} {more : ℕ} → next ≡ Some n → FirstOf tree (Due tree (Some n)) later → more ≡ min (count + 1) (2 ^ 64 - 1) → CountedSoFar laws more later
  counted_more {n} here first e = record {
    entries = p.entries ++ n ∷ [];
    so_far = listing_more laws p.so_far here first;
    counted = omega (arith, e, p.counted, length_push p.entries n);
  }

  pub counted_all : next ≡ None → Counted tree count
  counted_all none = (p.entries, whole_listing p.entries p.so_far.listing (none_left p.so_far none), p.counted)

pub ahead_falls : {N : Type 0} {tree : Shape N} (laws : Laws tree) {n : N} {next : Option N} (later : Option N) → next ≡ Some n → FirstOf tree (Due tree (Some n)) later → ahead laws later < ahead laws next
unfolding ahead
ahead_falls {N} {tree} laws {n} {next} later here first = subst (λ (o : Option N). ahead laws later < ahead laws o) (sym here) (go later first)
  where
    go : (o : Option N) → FirstOf tree (Due tree (Some n)) o → ahead laws o < ahead laws (Some n)
    go None f = zero-lt-suc (remaining laws n)
    go (Some x) f = suc-le-suc (remaining_falls laws n x f.0.1)
