-- What a tree is: its nodes stand for words, and with a word every beginning of it has a node.
-- Assumes nothing.
use Rattle.std.specs.Prelude.{◌≡◌, ℕ, ◌<◌, ◌≤◌, List, [], ◌∷◌, ◌++◌, length, All, Option, MatchOption}

-- what the values of N mean in a tree: those that stand for a word are its nodes, and some of the nodes are wanted
pub record Shape (N : Type 0) : Type 1 where
  -- the value stands for the word
  pub stands : N → List ℕ → Type 0
  pub wanted : N → Type 0

module _ {N : Type 0} (tree : Shape N) where
  -- the value n is a node: it stands for some word
  abbrev pub Node : N → Type 0
  Node n = (w : List ℕ) × tree.stands n w

  -- the node m is one letter i further than the node n
  abbrev pub Further : N → ℕ → N → Type 0
  Further n i m = (w : List ℕ) × tree.stands n w × tree.stands m (w ++ (i ∷ []))

  -- the node one letter i further than n, if there is one
  abbrev pub Child : N → ℕ → Option N → Type 0
  Child n i r = MatchOption r ((m : N) → Further n i m → ⊥) (Further n i)

  -- the node one letter shorter than n, with the letter, if n is a node and not the root
  abbrev pub Parent : N → Option (N × ℕ) → Type 0
  Parent n r = MatchOption r ((p : N) (i : ℕ) → Further p i n → ⊥) (λ x. Further x.0 x.1 n)

-- the laws of a tree
pub record Laws {N : Type 0} (tree : Shape N) : Type 0 where
  -- a node stands for one word, and no two for the same
  pub one_word : (n : N) (w v : List ℕ) → tree.stands n w → tree.stands n v → w ≡ v
  pub one_node : (n m : N) (w : List ℕ) → tree.stands n w → tree.stands m w → n ≡ m
  pub beginnings : (n : N) (w v : List ℕ) → tree.stands n (w ++ v) → (p : N) × tree.stands p w
  pub letters : (n : N) (w : List ℕ) → tree.stands n w → All (λ i. i < 30) w
  pub short : (n : N) (w : List ℕ) → tree.stands n w → length w ≤ 30
  pub only_nodes : (n : N) → tree.wanted n → Node tree n
  -- of every value it is settled whether it is a node
  pub settled : (n : N) → Dec (Node tree n)
