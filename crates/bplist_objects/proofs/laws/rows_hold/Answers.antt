use Rattle.bplist_objects.proofs.SmallFiles.{file_true, file_array, file_dict}
use Rattle.bplist_objects.proofs.laws.rows_hold.Goals as goal

pub returns-clause-true_row : goal.returns-clause-true_row
returns-clause-true_row c = file_true

pub returns-clause-array_row : goal.returns-clause-array_row
returns-clause-array_row c = file_array

pub returns-clause-dict_row : goal.returns-clause-dict_row
returns-clause-dict_row c = file_dict
