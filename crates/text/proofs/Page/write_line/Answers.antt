-- Where the line has room, so have its parts; they are written one after the other.
use mathlib.Core.List.{[], ◌∷◌}
use native.Mathlib.Omega.{arith}
use Rattle.text.specs.Text.{list_by}
use Rattle.text.proofs.Stores.{page-long}
use Rattle.text.proofs.Texts.{line-length, line-wrote}
use Rattle.text.proofs.Page.write_line.Goals as goal

pub write_bytes-requires : goal.write_bytes-requires
write_bytes-requires c =
    let s = c.args.separators in
    let size = line-length c.args.key.now (list_by (s.first ∷ []) (s.second ∷ []) c.args.numbers.now) in
    record { inside = omega (arith, size, c.requires) }

pub write_byte-requires : goal.write_byte-requires
write_byte-requires c =
    let s = c.args.separators in
    let size = line-length c.args.key.now (list_by (s.first ∷ []) (s.second ∷ []) c.args.numbers.now) in
    let x = c.write_bytes.ensures in
    record { inside = omega (arith, size, c.requires, x.text.place, page-long x) }

pub write_list-requires : goal.write_list-requires
write_list-requires c =
    let s = c.args.separators in
    let size = line-length c.args.key.now (list_by (s.first ∷ []) (s.second ∷ []) c.args.numbers.now) in
    let x = c.write_bytes.ensures in
    let y = c.write_byte.ensures in
    record { inside = omega (arith, size, c.requires, x.text.place, page-long x, y.text.place, page-long y) }

pub write_byte-requires-2 : goal.write_byte-requires-2
write_byte-requires-2 c =
    let s = c.args.separators in
    let size = line-length c.args.key.now (list_by (s.first ∷ []) (s.second ∷ []) c.args.numbers.now) in
    let x = c.write_bytes.ensures in
    let y = c.write_byte.ensures in
    let z = c.write_list.ensures in
    record { inside = omega (arith, size, c.requires, x.text.place, page-long x, y.text.place, page-long y, z.text.place, page-long z) }

pub returns : goal.returns
returns c = line-wrote c.write_bytes.ensures c.write_byte.ensures c.write_list.ensures c.write_byte-2.ensures
