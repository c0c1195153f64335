-- What the iterator over the anti-Lyndon factors has left to give.
use Rattle.std.specs.Prelude.{List, ℕ}
use Rattle.strict.specs.declared.Factors.{Factors}
use Rattle.strict.specs.Walk.{ends_left}

-- the ends of the factors that are still to come
abbrev pub factors_left : Factors → List ℕ
factors_left f = ends_left f.word.now f.from
