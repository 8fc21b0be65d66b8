-- The walk: the first node after a given one is its first child, or else a later child of a node on the way to the root.
-- Assumes nothing.
use Rattle.std.proofs.Common.{◌≡◌, ℕ, ◌+◌, ◌<◌, ◌≤◌, ◌⊎◌, List, [], ◌∷◌, ◌++◌, length, Some, None, sym, ap, ◌∙◌, subst, inl, inr, ⊎_elim, append_assoc, append-nil, zero-le, arith, length-append}
use native.Mathlib.Decide.{ℕ_discrete}
use Rattle.std.proofs.lemmas.List.Elements.{All-contains, Contains-push}
use Rattle.trees.specs.Listings.{Before}
use Rattle.trees.specs.Trees.{Shape, Node, Further, Parent, Laws}
use Rattle.trees.specs.Walking.{After, FirstChild, FirstOf}
use Rattle.trees.specs.Words.{◌≺◌}
use Rattle.trees.proofs.Words.{≺_irrefl, ≺_cases, ≺_along, ≺_rest, ≺_between, snoc_cases}

not_before_empty : (w : List ℕ) → w ≺ [] → ⊥
unfolding ◌≺◌
not_before_empty [] h = h
not_before_empty (i ∷ w) h = h

-- a letter in the middle of a word ends a beginning of it
cut : (u : List ℕ) (i : ℕ) (r : List ℕ) → u ++ (i ∷ r) ≡ (u ++ (i ∷ [])) ++ r
cut u i r = sym (append_assoc u (i ∷ []) r)

module _ {N : Type 0} (tree : Shape N) where
  -- the nodes after w do not begin with u
  pub Done : List ℕ → List ℕ → Type 0
  Done w u = (m : N) (r : List ℕ) → tree.stands m (u ++ r) → w ≺ u ++ r → ⊥

module _ {N : Type 0} {tree : Shape N} (laws : Laws tree) where
  -- a node past n with a letter i has a node one letter further than n on its way
  on_the_way : (n m : N) (u : List ℕ) (i : ℕ) (r : List ℕ) → tree.stands n u → tree.stands m (u ++ (i ∷ r)) → (k : N) × Further tree n i k
  on_the_way n m u i r here there =
      let b = laws.beginnings m (u ++ (i ∷ [])) r (subst (tree.stands m) (cut u i r) there) in
      (b.0, (u, here, b.1))

  before_words : (n m : N) (w v : List ℕ) → tree.stands n w → tree.stands m v → Before tree n m → w ≺ v
  before_words n m w v a b h =
      subst (λ (x : List ℕ). x ≺ v) (laws.one_word n h.0 w h.2 a)
      (subst (λ (y : List ℕ). h.0 ≺ y) (laws.one_word m h.1 v h.3 b) h.4)

  -- nothing is left below a node without children
  pub leaf : (n : N) (w : List ℕ) → tree.stands n w → FirstChild tree n 0 None → Done tree w w
  unfolding Done
  leaf n w here none m [] there h = absurd (≺_irrefl w (subst (λ (v : List ℕ). w ≺ v) (append-nil w) h))
  leaf n w here none m (i ∷ r) there h =
      let k = on_the_way n m w i r here there in
      absurd (none i k.0 zero-le k.1)

  -- no word is after one that it continues
  pub not_back : (u a : List ℕ) → u ++ a ≺ u ++ [] → ⊥
  unfolding ◌≺◌
  not_back u [] h = ≺_irrefl (u ++ []) h
  not_back u (i ∷ a) h = ≺_rest u (i ∷ a) [] h

  -- c comes next after n, where both begin with u, c has one letter j more, and no node after n goes on from u with a smaller one
  next_is : (n c : N) (u a : List ℕ) (j : ℕ) → tree.stands n (u ++ a) → tree.stands c (u ++ (j ∷ [])) → u ++ a ≺ u ++ (j ∷ [])
      → ((m : N) (k : ℕ) (r : List ℕ) → tree.stands m (u ++ (k ∷ r)) → u ++ a ≺ u ++ (k ∷ r) → k < j → ⊥) → FirstOf tree (After tree n) (Some c)
  unfolding ◌≺◌
  next_is n c u a j here there up smaller = (((u ++ (j ∷ []), there), (u ++ a, u ++ (j ∷ []), here, there, up)), λ k h. go k h.0.0 h.0.1 (before_words n k (u ++ a) h.0.0 here h.0.1 h.1))
    where
      below : (k : N) (z : List ℕ) → tree.stands k z → u ++ a ≺ z → z ≺ u ++ (j ∷ []) → (r : List ℕ) → z ≡ u ++ r → ⊥
      below k z at l g [] e = not_back u a (subst (λ (x : List ℕ). u ++ a ≺ x) e l)
      below k z at l g (i ∷ r) e =
          smaller k i r (subst (tree.stands k) e at) (subst (λ (x : List ℕ). u ++ a ≺ x) e l)
          (⊎_elim (λ lt. lt) (λ s. absurd (not_before_empty r s.1)) (≺_rest u (i ∷ r) (j ∷ []) (subst (λ (x : List ℕ). x ≺ u ++ (j ∷ [])) e g)))

      go : (k : N) (z : List ℕ) → tree.stands k z → u ++ a ≺ z → (k ≡ c) ⊎ Before tree c k
      go k z at l =
          ⊎_elim
          (λ g. let f = ≺_between u a (j ∷ []) z l g in absurd (below k z at l g f.0 f.1))
          (⊎_elim (λ e. inl (laws.one_node k c (u ++ (j ∷ [])) (subst (tree.stands k) e at) there)) (λ g. inr (u ++ (j ∷ []), z, there, at, g)))
          (≺_cases z (u ++ (j ∷ [])))

  -- the first child comes next
  pub child_next : (n c : N) (w : List ℕ) → tree.stands n w → FirstChild tree n 0 (Some c) → FirstOf tree (After tree n) (Some c)
  unfolding ◌≺◌
  child_next n c w here first =
      let j = first.0 in
      let f = first.2 in
      let there : tree.stands c (w ++ (j ∷ [])) = subst (λ (x : List ℕ). tree.stands c (x ++ (j ∷ []))) (laws.one_word n f.0 w f.1 here) f.2 in
      next_is n c w [] j (subst (tree.stands n) (sym (append-nil w)) here) there (≺_along w [] (j ∷ []) tt)
      (λ m k r at h lt. let found = on_the_way n m w k r here at in first.3 k found.0 zero-le lt found.1)

  module _ (n : N) (w : List ℕ) (here : tree.stands n w) (p : N) (u : List ℕ) (i : ℕ) (at : tree.stands p u) (rest : List ℕ) (way : w ≡ u ++ (i ∷ rest)) (done : Done tree w (u ++ (i ∷ []))) where
    -- what a node after n that begins with u goes on with
    later : (m : N) (k : ℕ) (r : List ℕ) → tree.stands m (u ++ (k ∷ r)) → w ≺ u ++ (k ∷ r) → i < k
    unfolding Done ◌≺◌
    later m k r there h =
        let past : (i ∷ rest) ≺ (k ∷ r) = ≺_rest u (i ∷ rest) (k ∷ r) (subst (λ (x : List ℕ). x ≺ u ++ (k ∷ r)) way h) in
        ⊎_elim (λ l. l)
        (λ e. absurd (done m r
        (subst (tree.stands m) (ap (λ (j : ℕ). u ++ (j ∷ r)) (sym e.0) ∙ cut u i r) there)
        (subst (λ (z : List ℕ). w ≺ z) (ap (λ (j : ℕ). u ++ (j ∷ r)) (sym e.0) ∙ cut u i r) h)))
        past

    -- no later child: nothing is left below the parent
    pub climb : FirstChild tree p (i + 1) None → Done tree w u
    unfolding Done
    climb none m [] there h = not_back u (i ∷ rest) (subst (λ (x : List ℕ). x ≺ u ++ []) way h)
    climb none m (k ∷ r) there h =
        let lt : i < k = later m k r there h in
        let found = on_the_way p m u k r at there in
        none k found.0 (omega arith) found.1

    -- the next child comes next
    pub sibling : (c : N) → FirstChild tree p (i + 1) (Some c) → FirstOf tree (After tree n) (Some c)
    unfolding ◌≺◌
    sibling c first =
        let j = first.0 in
        let f = first.2 in
        let there : tree.stands c (u ++ (j ∷ [])) = subst (λ (x : List ℕ). tree.stands c (x ++ (j ∷ []))) (laws.one_word p f.0 u f.1 at) f.2 in
        let low : i + 1 ≤ j = first.1 in
        next_is n c u (i ∷ rest) j (subst (tree.stands n) way here) there (≺_along u (i ∷ rest) (j ∷ []) (inl (omega arith)))
        (λ m k r on h lt. let found = on_the_way p m u k r at on in
        let past : i < k = later m k r on (subst (λ (x : List ℕ). x ≺ u ++ (k ∷ r)) (sym way) h) in
        first.3 k found.0 (omega arith) lt found.1)

-- ---- what the loops of the walk keep

-- no letter from `least` to below i leads further from n
pub record NoneBelow {N : Type 0} (tree : Shape N) (n : N) (least i : ℕ) : Type 0 where
  pub none : (j : ℕ) (k : N) → least ≤ j → j < i → Further tree n j k → ⊥

-- a letter is below 30
pub letter_low : {N : Type 0} {tree : Shape N} (laws : Laws tree) {n m : N} {i : ℕ} → Further tree n i m → i < 30
letter_low laws {n} {m} {i} f = All-contains (λ j. j < 30) (f.0 ++ i ∷ []) i (laws.letters m (f.0 ++ i ∷ []) f.2) (Contains-push f.0 i)

module _ {N : Type 0} {tree : Shape N} {n : N} {least i : ℕ} (p : NoneBelow tree n least i) where
  pub none_below_more : ((m : N) → Further tree n i m → ⊥) → NoneBelow tree n least (i + 1)
  none_below_more no_child = record {
    none = λ j k low high f.
        elim (ℕ_discrete j i) [
          | yes e ↦ no_child k (subst (λ (x : ℕ). Further tree n x k) e f)
          | no ne ↦ p.none j k low (omega (arith, high, ne)) f
        ];
  }

  pub none_found : Laws tree → 30 ≤ i → FirstChild tree n least None
  none_found laws all j k low f = let below = letter_low laws f in p.none j k low (omega (arith, below, all)) f

-- d is on the way from n to the root, and nothing is left below it
pub record Climbed {N : Type 0} {tree : Shape N} (laws : Laws tree) (n d : N) : Type 0 where
  pub start : List ℕ
  pub here : List ℕ
  pub rest : List ℕ
  pub at_start : tree.stands n start
  pub at_here : tree.stands d here
  pub way : start ≡ here ++ rest
  pub done : Done tree start here

-- how many letters the word of a node has
pub depth : {N : Type 0} {tree : Shape N} → Laws tree → N → ℕ
depth laws n = elim (laws.settled n) [ yes p ↦ length p.0 | no none ↦ 0 ]

module _ {N : Type 0} {tree : Shape N} (laws : Laws tree) where
  pub depth_is : (n : N) (w : List ℕ) → tree.stands n w → depth laws n ≡ length w
  unfolding depth
  depth_is n w h =
      elim (laws.settled n) as (λ (d : Dec (Node tree n)). elim d [ yes p ↦ length p.0 | no none ↦ 0 ] ≡ length w) [
        | yes p ↦ ap length (laws.one_word n p.0 w p.1 h)
        | no none ↦ absurd (none (w, h))
      ]

  pub depth_falls : {d p : N} {i : ℕ} → Further tree p i d → depth laws p < depth laws d
  depth_falls {d} {p} {i} f = omega (arith, depth_is p f.0 f.1, depth_is d (f.0 ++ (i ∷ [])) f.2, length-append f.0 (i ∷ []))

  pub climbing : {n : N} → Node tree n → FirstChild tree n 0 None → Climbed laws n n
  climbing {n} (w, here) none = record { start = w; here = w; rest = []; at_start = here; at_here = here; way = sym (append-nil w); done = leaf laws n w here none }

module _ {N : Type 0} {tree : Shape N} {laws : Laws tree} {n d : N} (c : Climbed laws n d) where
  module _ {p : N} {i : ℕ} (f : Further tree p i d) where
    here_is : c.here ≡ f.0 ++ (i ∷ [])
    here_is = laws.one_word d c.here (f.0 ++ (i ∷ [])) c.at_here f.2

    on_way : c.start ≡ f.0 ++ (i ∷ c.rest)
    on_way = c.way ∙ ap (λ (x : List ℕ). x ++ c.rest) here_is ∙ sym (cut f.0 i c.rest)

    done_there : Done tree c.start (f.0 ++ (i ∷ []))
    done_there = subst (Done tree c.start) here_is c.done

    pub climbed_on : FirstChild tree p (i + 1) None → Climbed laws n p
    climbed_on none = record {
      start = c.start;
      here = f.0;
      rest = i ∷ c.rest;
      at_start = c.at_start;
      at_here = f.1;
      way = on_way;
      done = climb laws n c.start c.at_start p f.0 i f.1 c.rest on_way done_there none;
    }

    pub sibling_next : {k : N} → FirstChild tree p (i + 1) (Some k) → FirstOf tree (After tree n) (Some k)
    sibling_next {k} first = sibling laws n c.start c.at_start p f.0 i f.1 c.rest on_way done_there k first

  pub climbed_all : Parent tree d None → FirstOf tree (After tree n) None
  unfolding Done
  climbed_all none m h =
      let e = root c.here c.at_here in
      c.done m h.0.0
      (subst (λ (x : List ℕ). tree.stands m (x ++ h.0.0)) (sym e) h.0.1)
      (subst (λ (x : List ℕ). c.start ≺ x ++ h.0.0) (sym e) (before_words laws n m c.start h.0.0 c.at_start h.0.1 h.1))
    where
      root : (u : List ℕ) → tree.stands d u → u ≡ []
      root u at =
          ⊎_elim (λ e. e)
          (λ s. let there : tree.stands d (s.0 ++ (s.1 ∷ [])) = subst (tree.stands d) s.2 at in
          let b = laws.beginnings d s.0 (s.1 ∷ []) there in
          absurd (none b.0 s.1 (s.0, b.1, there)))
          (snoc_cases u)
