-- What the functions that write text ask and promise. No call's promise cites this file.
use Rattle.std.specs.Prelude.{◌≡◌, List, ℕ, ◌+◌, ◌≤◌, length}
use Rattle.std.proofs.lemmas.List.Edits.{sets}
use Rattle.text.specs.declared.Page.{Page}

-- vs fits into out from entry at on
pub record FitsAt (at : ℕ) (vs out : List ℕ) : Type 0 where
  pub inside : at + length vs ≤ length out

-- vs stands in out from entry at on, and r is the entry after it
pub record WroteAt (at : ℕ) (vs out : List ℕ) (r : ℕ) (out' : List ℕ) : Type 0 where
  pub place : r ≡ at + length vs
  pub content : out' ≡ sets out at vs

-- the same of a page, which holds one buffer
abbrev pub Fits : List ℕ → Page → Type 0
Fits vs p = FitsAt p.at vs p.out.now

pub record Wrote (vs : List ℕ) (p q : Page) : Type 0 where
  pub same : q.out.ghost_name ≡ p.out.ghost_name
  pub text : WroteAt p.at vs p.out.now q.at q.out.now
