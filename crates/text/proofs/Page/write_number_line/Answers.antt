-- A number is a list of one.
use Rattle.text.proofs.Texts.{list-one}
use Rattle.text.proofs.Page.write_number_line.Goals as goal

pub write_list_line-requires : goal.write_list_line-requires
write_list_line-requires c = rw list-one c.requires

pub returns : goal.returns
returns c = rw list-one at c.write_list_line.ensures
