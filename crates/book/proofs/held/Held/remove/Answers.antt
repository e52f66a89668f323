use Rattle.std.proofs.Common.{◌≡◌, ◌-◌, ◌++◌, ◌∷◌, [], remove, slice_index_or, arith}
use Rattle.std.proofs.lemmas.Slice.{put_mid-rotated}
use borrow.Rule.Slice.PartMut.{put_mid}
use Rattle.book.proofs.Places.{removed}
use Rattle.book.proofs.held.Held.remove.Goals as goal

module _ (c : goal.After-index-self) where
  turned : put_mid c.from.result (16 - c.from.result) c.args.self.now.rules c.rotate_left.new.self ≡ remove c.args.self.now.rules c.args.i ++ slice_index_or c.args.self.now.rules c.args.i c.blank.result ∷ []
  turned = rw c.from.ensures (put_mid-rotated c.args.i (16 - c.args.i) c.args.self.now.rules _ c.blank.result (omega (arith, c.requires.is_tidy.places, c.requires.is_tidy.room, c.requires.is_held)) (omega (arith, c.requires.is_tidy.places)) (rw c.from.ensures at c.rotate_left.ensures.after))

pub returns-clause-is_tidy : goal.returns-clause-is_tidy
returns-clause-is_tidy c = (removed c.args.self.now c.requires.is_tidy c.args.i _ _ c.blank.result c.requires.is_held (turned c) c.blank.ensures).0

pub returns-clause-later_move_down : goal.returns-clause-later_move_down
returns-clause-later_move_down c = (removed c.args.self.now c.requires.is_tidy c.args.i _ _ c.blank.result c.requires.is_held (turned c) c.blank.ensures).1
