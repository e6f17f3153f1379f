use Rattle.bplist_objects.proofs.Leaves.{int_value, real_value, date_value, bytes_value, uid_value, spelled_uid, text_value, text_content}
use Rattle.bplist_objects.proofs.leaf_laws.leaves_by_parts.Goals as goal

pub returns : goal.returns
returns c = record {
  int = λ f F h i e. int_value f F h.kind h.count h.body i e;
  real = λ f F h l e. real_value f F h.kind h.count h.body l e;
  date = λ f F h l e. date_value f F h.kind h.count h.body l e;
  bytes = λ f F h l e. bytes_value f F h.kind h.count h.body l e;
  uid = λ f F h x e. uid_value f F h.kind h.count h.body x e;
  uid_low = λ f F n x s. spelled_uid f F n x s;
  text = λ f F h us e. text_value f F h.kind h.count h.body us e;
  units = λ f F h t. text_content f F h.kind h.count h.body t;
}
