use Rattle.std.proofs.Common.{ℕ, ◌+◌, ◌<◌, ◌≤◌, ◌≡◌, rules}
use Rattle.clauses.specs.Clauses.{at, earlier}
use Rattle.clauses.proofs.RightRows.{inside_others}
use Rattle.clauses.proofs.list.ClauseList.allows.Goals as goal

pub returns-then-has_room_for : goal.returns-then-has_room_for
returns-then-has_room_for c =
    let l = c.args.self.now in
    let q = c.args.clause in
    let fits = inside_others l.items q.item q.alternative.number _ _ l.bounds.1 c.all_below.ensures.members c.without.ensures.members in
    let ordered : (j : ℕ) → j + 1 ≡ l.len → (at l.clauses j).item ≤ q.item = search rules in
    let few : earlier (at l.clauses) l.len q.item < 4 = search rules in (
      λ t.
          let apart = fits.0 (c.is_inside.ensures.0 t) in
          record { item_below = search rules; in_order = ordered; at_most_four = few; inside = apart.0; of_others = apart.1 },
      λ r. c.is_inside.ensures.1 (fits.1 (r.inside, r.of_others)),
    )
