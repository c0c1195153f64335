-- Each line has room after those before it; together they are the seven.
use mathlib.Core.Path.{◌≡◌}
use mathlib.Core.List.{List}
use Prim.Native.Nat.{ℕ, ◌+◌}
use native.Mathlib.Omega.{arith}
use lib.ListN.{length}
use Rattle.text.specs.Writing.{FitsAt}
use Rattle.text.specs.declared.Page.{Page}
use Rattle.text.proofs.Stores.{Room, room-left, page-none, page-then}
use Rattle.summary.specs.declared.Summary.{Summary}
use Rattle.listing.specs.Listing.{seven_lines, lines_of}
use Rattle.listing.specs.Writing.{total, Printable}
use Rattle.listing.proofs.lines.write_seven.Goals as goal

all : {n : ℕ} {pairs strict : List ℕ} {summary : Summary} {p : Page} → Printable n pairs strict summary p.out.now → p.at ≡ 0
    → Room (total (lines_of n pairs strict summary)) p
all r e = record { inside = omega (arith, r.room, e) }

fits : {vs : List ℕ} (n : ℕ) {p : Page} → Room (length vs + n) p → FitsAt p.at vs p.out.now
fits n r = record { inside = omega (arith, r.inside) }

pub write_number_line-requires-2 : goal.write_number_line-requires-2
write_number_line-requires-2 c = fits _ (room-left c.write_number_line.ensures (all c.requires.room c.requires.empty))

pub write_pairs_line-requires : goal.write_pairs_line-requires
write_pairs_line-requires c =
    fits _ (room-left c.write_number_line-2.ensures (room-left c.write_number_line.ensures (all c.requires.room c.requires.empty)))

pub write_list_line-requires : goal.write_list_line-requires
write_list_line-requires c =
    fits _ (room-left c.write_pairs_line.ensures (room-left c.write_number_line-2.ensures (room-left c.write_number_line.ensures
    (all c.requires.room c.requires.empty))))

pub write_number_line-requires-3 : goal.write_number_line-requires-3
write_number_line-requires-3 c =
    fits _ (room-left c.write_list_line.ensures (room-left c.write_pairs_line.ensures (room-left c.write_number_line-2.ensures
    (room-left c.write_number_line.ensures (all c.requires.room c.requires.empty)))))

pub write_number_line-requires-4 : goal.write_number_line-requires-4
write_number_line-requires-4 c =
    fits _ (room-left c.write_number_line-3.ensures (room-left c.write_list_line.ensures (room-left c.write_pairs_line.ensures
    (room-left c.write_number_line-2.ensures (room-left c.write_number_line.ensures (all c.requires.room c.requires.empty))))))

pub write_list_line-requires-2 : goal.write_list_line-requires-2
write_list_line-requires-2 c =
    fits _ (room-left c.write_number_line-4.ensures (room-left c.write_number_line-3.ensures (room-left c.write_list_line.ensures
    (room-left c.write_pairs_line.ensures (room-left c.write_number_line-2.ensures (room-left c.write_number_line.ensures
    (all c.requires.room c.requires.empty)))))))

pub returns : goal.returns
unfolding seven_lines
returns c =
    page-then c.write_number_line.ensures (page-then c.write_number_line-2.ensures (page-then c.write_pairs_line.ensures
    (page-then c.write_list_line.ensures (page-then c.write_number_line-3.ensures (page-then c.write_number_line-4.ensures
    (page-then c.write_list_line-2.ensures (page-none _)))))))
