-- Filtering a set, one item after the other: what is kept and what is not, of the items that are gone through.
-- Assumes nothing.
use Rattle.std.proofs.Common.{◌≡◌, ℕ, ◌^◌, ◌<◌, Bool, true, false, ◌⊎◌, Some, arith}
use native.Mathlib.Decide.{ℕ_discrete}
use Rattle.item_sets.specs.Iteration.{Steps}
use Rattle.item_sets.specs.Sets.{◌∈◌, ◌∉◌, ◌⊆◌, Members}
use Rattle.item_sets.proofs.Members.{∈_dec, ∉_empty, ∈-without, empty_⊆, members_below}

-- of the items of C, those in R are left; F has those that were kept. `post i b` says that the answer for item i may be b
pub record Filtered (post : ℕ → Bool → Type 0) (C R F : ℕ) : Type 0 where
  pub left : R ⊆ C
  pub inside : F ⊆ C
  pub kept : (i : ℕ) → i ∈ F → post i true
  pub others : (i : ℕ) → i ∈ C → i ∉ R → i ∉ F → post i false

module _ (post : ℕ → Bool → Type 0) (C : ℕ) where
  pub none_filtered : (R : ℕ) → R ≡ C → Filtered post C R 0
  none_filtered R all = record {
    left = λ i h. rw all at h;
    inside = empty_⊆ C;
    kept = λ i h. absurd (∉_empty i h);
    others = λ i h n _. absurd (n (rw all h));
  }

  pub all_filtered : (R F : ℕ) → R ≡ 0 → Filtered post C R F → (i : ℕ) → i ∈ C → i ∉ F → post i false
  all_filtered R F none p i h n = p.others i h (rw none (∉_empty i)) n

  -- what is left once item i is gone
  module _ (R F i S : ℕ) (p : Filtered post C R F) (step : Steps R (Some i) S) where
    rest : Members S (λ j. (j ∈ R) × (j ≡ i → ⊥))
    rest = rw step.1 (∈-without R i)

    fewer : S ⊆ C
    fewer j h = p.left j ((rest j).0 h).0

    pub kept_more : (D : ℕ) → C < 2 ^ 32 → post i true → Members D (λ j. (j ∈ F) ⊎ ((j ≡ i) × (j < 32))) → Filtered post C S D
    kept_more D small told added = record {
      left = fewer;
      inside = λ j h. grind (arith, added j, p.inside j, p.left i, step.0);
      kept = λ j h. grind (arith, added j, p.kept j, told);
      others = λ j c n m. grind (arith, added j, rest j, p.others j, members_below C 32 small j);
    }

    pub passed_over : post i false → Filtered post C S F
    passed_over told = record {
      left = fewer;
      inside = p.inside;
      kept = p.kept;
      others = λ j c n m. grind (arith, rest j, p.others j, told, ℕ_discrete j i);
    }

-- what is kept, where that is said by P
pub members_filtered : (P : ℕ → Type 0) (C F : ℕ) → F ⊆ C → ((i : ℕ) → i ∈ F → P i) → ((i : ℕ) → i ∈ C → i ∉ F → P i → ⊥) → Members F (λ i. (i ∈ C) × P i)
members_filtered P C F inside kept others i = grind (arith, inside i, kept i, others i, ∈_dec i F)
