-- Going through the clauses: what a pass adds can be built, and a pass that adds nothing shows that nothing is left to add.
-- Assumes nothing.
use Rattle.std.specs.Prelude.{◌≡◌, ℕ, ◌+◌, ◌<◌, refl}
use Rattle.std.proofs.Common.{sym, subst, below_more}
use Rattle.std.proofs.Math.Logic.{∥∥₁_elim}
use Rattle.std.proofs.Math.Bridge.{le_prop}
use Rattle.item_sets.specs.Sets.{◌∈◌, ◌⊆◌, ◌⊕◌, first}
use Rattle.item_sets.proofs.Members.{∈_dec, ∈-first, ⊆_trans, ⊆-with, with_has, with-⊆, with_present}
use Rattle.spaces.specs.Largest.{Largest}
use Rattle.spaces.proofs.Theory.{largest_of}
use Rattle.clauses.specs.declared.clause.Clause.{Clause}
use Rattle.clauses.specs.declared.list.ClauseList.{ClauseList}
use Rattle.clauses.specs.Building.{add}
use Rattle.clauses.specs.Clauses.{at, Met}
use Rattle.clauses.specs.Tables.{Builds, Pass}
use Rattle.clauses.specs.BuildingLemmas.{closed_holds}

pub met_stays : (len : ℕ) (f : ℕ → Clause) (i X Y : ℕ) → X ⊆ Y → Met len f i X → Met len f i Y
met_stays len f i X Y g m = (m.0, m.1, m.2, ⊆_trans (f m.0).alternative.number X Y m.3 g)

-- the item of a clause is an item of the table
pub item_known : (l : ClauseList) (m : ℕ) → m < l.len → (at l.clauses m).item < l.items
item_known l m lt = ∥∥₁_elim (l.alternatives m lt) le_prop (λ r. r.item_below)

-- one item more, by a clause that is met
pub built_more : (l : ClauseList) (C m : ℕ) → m < l.len → Builds l C → (at l.clauses m).alternative.number ⊆ C → Builds l (C ⊕ (at l.clauses m).item)
built_more l C m lt b met =
    let i = (at l.clauses m).item in
    elim (∈_dec i C) [
      | yes there ↦ subst (Builds l) (sym (with_present C i there)) b
      | no fresh ↦ add b i ((∈-first l.items i).1 (item_known l m lt)) fresh (m, lt, refl, met)
    ]

module _ (l : ClauseList) (X B C m : ℕ) (p : Pass l X B C m) where
  -- the next clause adds nothing that is not there
  pub pass_over : ((at l.clauses m).item ∈ X → (at l.clauses m).alternative.number ⊆ C → ⊥) → Pass l X B C (m + 1)
  pass_over left = record {
    built = p.built;
    inside = p.inside;
    grows = p.grows;
    swept = below_more _ m p.swept (λ x a. absurd (left x (⊆_trans (at l.clauses m).alternative.number B C a p.grows)));
  }

  -- the next clause adds its item
  pub pass_adds : (D : ℕ) → m < l.len → (at l.clauses m).item ∈ X → (at l.clauses m).alternative.number ⊆ C → D ≡ C ⊕ (at l.clauses m).item → Pass l X B D (m + 1)
  pass_adds D lt x a e =
      let i = (at l.clauses m).item in
      subst (λ (Y : ℕ). Pass l X B Y (m + 1)) (sym e) (record {
        built = built_more l C m lt p.built a;
        inside = with-⊆ C i X p.inside x;
        grows = ⊆_trans B C (C ⊕ i) p.grows (⊆-with C i);
        swept = below_more _ m (λ k h y b. ⊆-with C i (at l.clauses k).item (p.swept k h y b)) (λ y b. with_has C i);
      })

-- a whole pass that adds nothing
pub pass_ends : (l : ClauseList) (X B : ℕ) → Pass l X B B l.len → Largest (Builds l) X B
pass_ends l X B p =
    largest_of (Builds l) X B p.built p.inside
    (closed_holds (first l.items) (Met l.len (at l.clauses)) (met_stays l.len (at l.clauses)) X B
    (λ i g x m. subst (λ (j : ℕ). j ∈ B) m.2 (p.swept m.0 m.1 (subst (λ (j : ℕ). j ∈ X) (sym m.2) x) m.3)))
