use Rattle.bplist_cursor.proofs.ShownFaces.{array_face, set_face, dict_face}
use Rattle.bplist_cursor.proofs.node_face.face_by_head.Goals as goal

pub returns-in-Array-clause-content : goal.returns-in-Array-clause-content
returns-in-Array-clause-content g c = λ honest n s. array_face c.args.checked.now.source.octets c.args.checked.now.frame c.args.head.now c.in-Array.is

pub returns-in-Set-clause-content : goal.returns-in-Set-clause-content
returns-in-Set-clause-content g c = λ honest n s. set_face c.args.checked.now.source.octets c.args.checked.now.frame c.args.head.now c.in-Set.is

pub returns-in-Dict-clause-content : goal.returns-in-Dict-clause-content
returns-in-Dict-clause-content g c = λ honest n s. dict_face c.args.checked.now.source.octets c.args.checked.now.frame c.args.head.now c.in-Dict.is
