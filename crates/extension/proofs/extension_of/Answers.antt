use native.Mathlib.Omega.{arith}
use Rattle.extension.proofs.ScanLaws.{verdict-whole, verdict-fails}
use Rattle.extension.proofs.extension_of.Goals as goal

pub returns-then-word-at : goal.returns-then-word-at
returns-then-word-at c =
    let scan = c.scan_borders-s.ensures in
    record { answer = verdict-whole _ _ _ scan.rests.scanned c.if-word-at.true; kept = scan.kept }

pub shortest_border-border-requires : goal.shortest_border-border-requires
shortest_border-border-requires c =
    let scan = c.scan_borders-s.ensures in
    let inside = c.if-word-at.false in
    record {
      scanned = scan.rests.scanned;
      inside = inside;
      entries = omega (arith, c.requires.entries, c.scan_borders-s.auto);
      above = scan.rests.stops inside;
      borders = scan.table;
    }

pub returns : goal.returns
returns c =
    let scan = c.scan_borders-s.ensures in
    let inside = c.if-word-at.false in
    record {
      answer = verdict-fails _ _ _ _ scan.rests.scanned inside (scan.rests.stops inside) c.shortest_border-border.ensures;
      kept = scan.kept;
    }
