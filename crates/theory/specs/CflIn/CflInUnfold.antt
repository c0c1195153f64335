-- The bound of cfl_in_within does not matter: cfl_in is the longest anti-Lyndon prefix, then cfl_in of the rest.
use Rattle.std.specs.Prelude.{◌≡◌, refl, []}
use Rattle.words.specs.Factorizations.{cfl_in}

pub cfl-in-empty : cfl_in [] ≡ []
unfolding cfl_in
cfl-in-empty = refl
