-- Going from node to node until a wanted one is met.
-- Assumes nothing.
use Rattle.std.proofs.Common.{◌≡◌, ℕ, ◌-◌, ◌^◌, ◌<◌, ◌↔◌, Bool, true, false, ◌⊎◌, List, [], ◌∷◌, IfSome, Some, None, IsTrue, Option, sym, ap, subst, inl, inr, ⊎_elim, arith}
use Rattle.std.proofs.lemmas.Bool.Decides.{not_from_Decides}
use Rattle.trees.specs.Listings.{Before, Due}
use Rattle.trees.specs.Trees.{Shape, Node, Laws}
use Rattle.trees.specs.Walking.{After, FirstOf}
use Rattle.trees.specs.Words.{◌≺◌}
use Rattle.trees.proofs.Words.{≺_trans, rank, rank_bound, rank_rises}

-- how much of the listing order is left after a node: what falls with each step of the walk
pub remaining : {N : Type 0} {tree : Shape N} → Laws tree → N → ℕ
remaining laws n = elim (laws.settled n) [ yes p ↦ 31 ^ 30 - rank 30 p.0 | no none ↦ 0 ]

-- the walk from n has come to l, and has met no wanted node on its way
pub record Passed {N : Type 0} {tree : Shape N} (laws : Laws tree) (n l : N) : Type 0 where
  pub is_node : Node tree l
  pub way : (l ≡ n) ⊎ Before tree n l
  pub none_met : (m : N) → tree.wanted m → Before tree n m → Before tree l m

module _ {N : Type 0} {tree : Shape N} (laws : Laws tree) where
  pub before_trans : (n m k : N) → Before tree n m → Before tree m k → Before tree n k
  before_trans n m k a b =
      (a.0, b.1, a.2, b.3, ≺_trans a.0 a.1 b.1 a.4 (subst (λ (x : List ℕ). x ≺ b.1) (laws.one_word m b.0 a.1 b.2 a.3) b.4))

  remaining_is : (n : N) (w : List ℕ) → tree.stands n w → remaining laws n ≡ 31 ^ 30 - rank 30 w
  unfolding remaining
  remaining_is n w h =
      elim (laws.settled n) as (λ (d : Dec (Node tree n)). elim d [ yes p ↦ 31 ^ 30 - rank 30 p.0 | no none ↦ 0 ] ≡ 31 ^ 30 - rank 30 w) [
        | yes p ↦ ap (λ (v : List ℕ). 31 ^ 30 - rank 30 v) (laws.one_word n p.0 w p.1 h)
        | no none ↦ absurd (none (w, h))
      ]

  pub remaining_falls : (l x : N) → Before tree l x → remaining laws x < remaining laws l
  remaining_falls l x b =
      let w = b.0 in
      let v = b.1 in
      let up : rank 30 w < rank 30 v =
      rank_rises 30 w v (laws.short l w b.2) (laws.short x v b.3) (laws.letters l w b.2) (laws.letters x v b.3) b.4 in
      let top : rank 30 v < 31 ^ 30 = rank_bound 30 v (laws.short x v b.3) (laws.letters x v b.3) in
      omega (arith, remaining_is l w b.2, remaining_is x v b.3)

  -- the root comes before every other node
  pub root_first : (r k : N) → tree.stands r [] → Node tree k → (k ≡ r) ⊎ Before tree r k
  unfolding ◌≺◌
  root_first r k root (([], h)) = inl (laws.one_node k r [] h root)
  root_first r k root ((i ∷ w, h)) = inr ([], i ∷ w, root, h, tt)

  -- a listing from the start: where the root is wanted, it is the first; else what comes after it
  pub root_due : {from : Option N} {r : N} → from ≡ None → tree.stands r [] → tree.wanted r → FirstOf tree (Due tree from) (Some r)
  root_due {from} {r} start root w =
      subst (λ (o : Option N). FirstOf tree (Due tree o) (Some r)) (sym start)
      ((w, tt), λ k d. root_first r k root (laws.only_nodes k d.0))

  pub after_root : {from : Option N} {r : N} (next : Option N) → from ≡ None → tree.stands r [] → (tree.wanted r → ⊥)
      → FirstOf tree (Due tree (Some r)) next → FirstOf tree (Due tree from) next
  after_root {from} {r} next start root unwanted first =
      subst (λ (f : Option N). FirstOf tree (Due tree f) next) (sym start) (go next first)
    where
      past : (m : N) → tree.wanted m → Before tree r m
      past m w = ⊎_elim (λ e. absurd (unwanted (subst tree.wanted e w))) (λ b. b) (root_first r m root (laws.only_nodes m w))

      go : (o : Option N) → FirstOf tree (Due tree (Some r)) o → FirstOf tree (Due tree None) o
      go None none = λ m d. none m (d.0, past m d.0)
      go (Some x) next = ((next.0.0, tt), λ k d. next.1 k (d.0, past k d.0))

-- where the node to go on after is wanted, it is a node
pub wanted_node : {N : Type 0} {tree : Shape N} → Laws tree → (from : Option N) → IfSome from tree.wanted → IfSome from (Node tree)
wanted_node laws None h = tt
wanted_node laws (Some n) h = laws.only_nodes n h

module _ {N : Type 0} {tree : Shape N} {laws : Laws tree} {n l : N} (p : Passed laws n l) where
  onward : (x : N) → Before tree l x → Before tree n x
  onward x b = ⊎_elim (λ e. subst (λ (k : N). Before tree k x) e b) (λ a. before_trans laws n l x a b) p.way

  pub passed_to : {x : N} {b : Bool} → FirstOf tree (After tree l) (Some x) → IsTrue b ↔ tree.wanted x → b ≡ true → FirstOf tree (Due tree (Some n)) (Some x)
  passed_to {x} f told is_wanted = (
    (told.0 is_wanted, onward x f.0.1),
    λ k d. f.1 k (laws.only_nodes k d.0, p.none_met k d.0 d.1),
  )

  pub passed_over : {x : N} {b : Bool} → FirstOf tree (After tree l) (Some x) → IsTrue b ↔ tree.wanted x → b ≡ false → Passed laws n x
  passed_over {x} {b} f told unwanted = record {
    is_node = f.0.0;
    way = inr (onward x f.0.1);
    none_met = λ m w h. ⊎_elim (λ e. absurd (not_from_Decides b told unwanted (subst tree.wanted e w))) (λ after. after) (f.1 m (laws.only_nodes m w, p.none_met m w h));
  }

  pub passed_all : FirstOf tree (After tree l) None → FirstOf tree (Due tree (Some n)) None
  passed_all none m d = none m (laws.only_nodes m d.0, p.none_met m d.0 d.1)

  pub passing_ends : {x : N} → FirstOf tree (After tree l) (Some x) → remaining laws x < remaining laws l
  passing_ends {x} f = remaining_falls laws l x f.0.1
