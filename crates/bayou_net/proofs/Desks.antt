-- What stands beside a node stays as it is while the node is given several Writes.
use Rattle.std.proofs.Common.{List, [], ◌∷◌, Option, None, Some, refl}
use Rattle.bayou_lang.specs.declared.write.Write.{Write}
use Rattle.bayou_node.specs.Answers.{TakesAllAtNode, TakesAtNode}
use Rattle.bayou_node.specs.Books.{Begun}
use Rattle.bayou_peer.specs.Taking.{TakenBy}
use Rattle.bayou_server.specs.TakesAll.{TakesAll, TakesEach, TakingEnds}
use Rattle.bayou_server.specs.declared.answer.Took.{Took}
use Rattle.bayou_server.specs.declared.answer.RefusedWrite.{RefusedWrite}
use Rattle.bayou_server.specs.declared.answer.TookAll.{TookAll}

module _ {K : Type 0} (begun : Begun) (desk : K) where
  each_beside : (start end : Unit {0}) (front : List Write) (tooks : List Took) → TakesEach {S = Unit {0}} (TakesAtNode begun) start front tooks end
      → TakesEach {S = K} (TakenBy (λ _. None) (TakesAtNode begun)) desk front tooks desk
  each_beside start end [] [] same = refl
  each_beside start end [] (took ∷ tooks) none = absurd none
  each_beside start end (write ∷ front) [] none = absurd none
  each_beside start end (write ∷ front) (took ∷ tooks) each = (desk, ((each.1.0, refl), tt), each_beside each.0 end front tooks each.2)

  end_beside : (mid end : Unit {0}) (given front left : List Write) (refused : Option RefusedWrite) → TakingEnds {S = Unit {0}} (TakesAtNode begun) mid given front left refused end
      → TakingEnds {S = K} (TakenBy (λ _. None) (TakesAtNode begun)) desk given front left refused desk
  end_beside mid end given front left None ends = (ends.0, refl)
  end_beside mid end given front left (Some refused) ends = (ends.0, ends.1, ((ends.2.0, refl), tt), ends.3)

  pub all_beside : (given left : List Write) (told : TookAll) → TakesAllAtNode begun given left told → TakesAll {S = K} (TakenBy (λ _. None) (TakesAtNode begun)) desk given left told desk
  all_beside given left told all = record {
    front = all.front;
    tooks = all.tooks;
    mid = desk;
    each = each_beside tt all.mid all.front all.tooks all.each;
    taken = all.taken;
    had = all.had;
    ends = end_beside all.mid tt given all.front left told.refused all.ends;
  }
