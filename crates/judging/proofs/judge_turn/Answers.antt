use Rattle.judging.proofs.Turns.{turn-mark, turn-marks, turn-resumes, turn-rises, turn_last, turn-neighbours, turn-pair}
use native.Mathlib.Omega.{arith}
use mathlib.Core.Path.{sym}
use Rattle.judging.proofs.judge_turn.Goals as goal

pub returns-then-end-first : goal.returns-then-end-first
returns-then-end-first c = sym (turn-mark c.requires c.if-word-first.true c.if-end-first.true)

pub returns-then-word-first : goal.returns-then-word-first
returns-then-word-first c = (omega arith, sym (turn-marks c.requires c.if-word-first.true c.if-end-first.false))

pub scan_on-s-requires : goal.scan_on-s-requires
scan_on-s-requires c = turn-resumes c.requires _ c.start-start.ensures

pub returns-then-read-part : goal.returns-then-read-part
returns-then-read-part c = (omega arith, sym (turn-rises c.requires c.if-word-first.false _ c.scan_on-s.ensures c.if-read-part.true))

pub returns-then-next-end : goal.returns-then-next-end
returns-then-next-end c = sym (turn_last c.requires c.if-word-first.false _ c.scan_on-s.ensures c.if-read-part.false c.if-next-end.true)

pub judge_pair-requires : goal.judge_pair-requires
judge_pair-requires c = turn-neighbours c.requires c.if-word-first.false _ c.scan_on-s.ensures c.if-read-part.false c.if-next-end.false

pub returns : goal.returns
returns c = rw (turn-pair c.requires c.if-word-first.false _ c.scan_on-s.ensures c.if-read-part.false c.if-next-end.false) c.judge_pair.ensures
