-- THEOREM given-exists: for every record that the doorway lets in the three calls of demand 3, lent enough entries, give results; so there is what demand 3
-- speaks of. It holds of all calls that answer and whose answers meet the promises.
use Rattle.std.specs.Prelude.{◌≡◌, refl, List, ℕ, ◌*◌, ◌≤◌, length, take, replicate, ℤ}
use Rattle.std.proofs.Common.{arith, le-ltb}
use Rattle.std.proofs.lemmas.List.{length-replicate}
use Rattle.words.specs.Separated.{UpToSeparator, separated_icfl_ends, separated_cfl_in_ends}
use Rattle.words.specs.Pairs.{ends_of}
use Rattle.theory.specs.Places.EndsRise.{rises-few}
use Rattle.theory.specs.Stretches.Factors.{separated-icfl-ends-rise}
use Rattle.theory.proofs.Stretches.Factors.{separated-cfl-in-ends-rise}
use Rattle.checks.specs.Answers.{Says}
use Rattle.checks.specs.Lines.{tried, Passed}
use Rattle.checks.proofs.LineLaws.{all_pass, both-pass}
use Rattle.icfl.specs.Icfl.{icfl_lines}
use Rattle.cfl.specs.CflIn.{cfl_in_lines}
use Rattle.demands.specs.Calls.{Calls}
use Rattle.demands.specs.Demand1.{Doorway, Total}
use Rattle.demands.specs.Demand3.{Given}
use Rattle.demands.specs.Meets.{Sound, Meets}

-- entries that every record's cuts fit into
icfl-room : (w : List ℕ) (work ends : ℕ) → 3 * length w ≤ work → 2 * length w ≤ ends → tried (icfl_lines w work ends) ≡ Passed
icfl-room w work ends p q =
    let few : 2 * length (separated_icfl_ends w) ≤ ends = omega (arith, rises-few (separated-icfl-ends-rise w)) in
    all_pass (icfl_lines w work ends) (le-ltb work (3 * length w) p, (le-ltb ends (2 * length (separated_icfl_ends w)) few, search))

cfl-in-room : (w : List ℕ) (ends : ℕ) → length w ≤ ends → tried (cfl_in_lines w ends) ≡ Passed
cfl-in-room w ends q =
    let few : length (separated_cfl_in_ends w) ≤ ends = omega (arith, rises-few (separated-cfl-in-ends-rise w)) in
    all_pass (cfl_in_lines w ends) (le-ltb ends (length (separated_cfl_in_ends w)) few, search)

module _ (d : Doorway) (sound : Sound d) (c : Calls) (m : Meets d.door c) (t : Total c) where
  pub given-exists : (w : List ℕ) → 1 ≤ length w → length w ≤ d.most → UpToSeparator w
      → (es ss : List ℕ) × (compare : ℕ → ℕ → ℕ → ℕ → Says (ℤ × ℕ)) × Given d.most c w es ss compare
  given-exists w s l up =
      let let-in = sound.lets-in w s l in
      let work : List ℕ = replicate (3 * length w) 0 in
      let ends : List ℕ = replicate (2 * length w) 0 in
      let size : length ends ≡ 2 * length w = length-replicate (2 * length w) 0 in
      let size-work : length work ≡ 3 * length w = length-replicate (3 * length w) 0 in
      let a = t.piece_cut w work ends in
      let b = t.strict_cut w ends in
      let room = icfl-room w (length work) (length ends) (omega (arith, size-work)) (omega (arith, size)) in
      let passes = both-pass (d.door w) (icfl_lines w (length work) (length ends)) let-in room in
      let strict-passes = both-pass (d.door w) (cfl_in_lines w (length ends)) let-in (cfl-in-room w (length ends) (omega (arith, size))) in
      let pieces = rw passes at (m.piece_cut w work ends a.0 a.1 a.2 a.3).answer in
      let strict = rw strict-passes at (m.strict_cut w ends b.0 b.1 b.2).answer in (
        ends_of (take (2 * length (separated_icfl_ends w)) a.2),
        take (length (separated_cfl_in_ends w)) b.1,
        (λ first end start other. (t.comparison w first end start other).0),
        record {
          nonempty = s;
          short = l;
          bytes = up;
          piece_cut = (work, ends, a.1, a.2, length (separated_icfl_ends w), rw pieces at a.3, refl);
          strict_cut = (ends, b.1, length (separated_cfl_in_ends w), rw strict at b.2, refl);
          comparison = λ first end start other. (t.comparison w first end start other).1;
        },
      )
